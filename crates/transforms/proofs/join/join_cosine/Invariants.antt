use Rattle.std.proofs.Common.{◌+◌, ◌*◌, ◌/◌, ◌≡◌, pos}
use Rattle.words.proofs.Writing.{Ends}
use Rattle.transforms.specs.Steps.{even_at, odd_at, cosine_join}
use Rattle.transforms.proofs.join.join_cosine.Given as goal

-- the first k and the last k coefficients are made, at two sums a turn
abbrev pub invariant-loop-k : goal.invariant-loop-k
invariant-loop-k l =
    (l.sums ≡ l.spent.sums + 2 * l.k)
    × Ends (pos 0) l.at l.k l.k (l.n / 2 + 1) (cosine_join l.n (even_at l.at l.initial.w) (odd_at l.n l.at l.initial.w)) l.initial.w l.w
