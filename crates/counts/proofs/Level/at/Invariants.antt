-- `counts::Level::at`: each turn goes from the level of 2 ^ l samples to the next.
use Rattle.std.proofs.Common.{◌≡◌, ◌^◌}
use Rattle.counts.proofs.Level.at.Given as goal

abbrev pub invariant-loop-l : goal.invariant-loop-l
invariant-loop-l l = l.level.samples ≡ 2 ^ l.l
