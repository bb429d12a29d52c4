-- `rotation::rotate`: when the loop comes to k, the k - 1 pairs below it are made.
use Rattle.std.proofs.Common.{◌-◌}
use Rattle.rotation.proofs.Rotating.{Run}
use Rattle.rotation.proofs.rotate.Given as goal

abbrev pub invariant-loop-k : goal.invariant-loop-k
invariant-loop-k l = Run l.fn.n l.initial.w l.fn.spent (l.k - 1) l.w l.tally
