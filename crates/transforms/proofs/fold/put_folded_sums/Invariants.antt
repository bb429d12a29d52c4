use Rattle.std.proofs.Common.{◌+◌, ◌/◌, ◌≡◌, pos}
use Rattle.words.specs.Words.{word}
use Rattle.words.proofs.Writing.{Ends}
use Rattle.ffct.specs.Transforms.{folded_sums}
use Rattle.transforms.specs.Pairs.{paired}
use Rattle.transforms.proofs.fold.put_folded_sums.Given as goal

-- the first i sums are put and tallied, and the block is as it was
abbrev pub invariant-loop-i : goal.invariant-loop-i
invariant-loop-i l =
    (l.sums ≡ l.spent.sums + l.i)
    × Ends (pos 0) l.b l.i 0 (l.n / 4) (folded_sums l.n (paired l.n l.stride (word l.initial.w))) l.initial.w l.w
