-- `circle::QuarterWave::new` meets its contract: its digits are the list that the rules of document 01 compute.
use Rattle.std.proofs.Common.{rules}
use Rattle.whole.proofs.Cases.{both}
use Rattle.circle.specs.Circle.{step}
use Rattle.circle.proofs.Tests.{equal, same}
use Rattle.circle.proofs.Wave.{cosines, wave}
use Rattle.circle.proofs.Stored.{ruled, stored, same_wave}
use Rattle.circle.proofs.QuarterWave.new.Goals as goal

pub invariant_of-result : goal.invariant_of-result
unfolding both equal same stored ruled wave cosines step
invariant_of-result c = search (rules, same_wave)
