-- `pairspec::read_full` ends, since each turn leaves less room.
use Rattle.std.proofs.Common.{◌≤◌, length}
use Rattle.pairspec.proofs.read_full.Given as goal

abbrev pub invariant-loop-input : goal.invariant-loop-input
invariant-loop-input g l = length l.rest ≤ l.size

abbrev pub decreases-loop-input : goal.decreases-loop-input
decreases-loop-input g l = length l.rest
