use Rattle.std.proofs.Common.{◌+◌, ◌*◌, ◌/◌, ◌-◌, ◌≡◌, pos}
use Rattle.words.proofs.Writing.{Ends}
use Rattle.transforms.specs.Steps.{even_at, odd_at, sine_join}
use Rattle.transforms.proofs.join.join_sine.Given as goal

-- of the first n / 2 coefficients the first k and the last k - 1 are made, at two sums a turn
abbrev pub invariant-loop-k : goal.invariant-loop-k
invariant-loop-k l =
    (l.sums ≡ l.spent.sums + 2 * (l.k - 1))
    × Ends (pos 0) l.at l.k (l.k - 1) (l.n / 2) (sine_join l.n (even_at l.at l.initial.w) (odd_at l.n l.at l.initial.w)) l.initial.w l.w
