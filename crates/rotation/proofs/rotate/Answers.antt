-- `rotation::rotate` meets its contract: a pair more in each turn, and behind the loop the coefficients that belong to no pair.
use Rattle.std.proofs.Common.{refl, arith}
use Rattle.rotation.proofs.Rotating.{none_made, pair_more, all_made}
use Rattle.rotation.proofs.rotate.Goals as goal

pub loop-k-init : goal.loop-k-init
loop-k-init c = none_made refl

pub loop-k-preserved : goal.loop-k-preserved
loop-k-preserved c = pair_more c.requires c.loop-k.invariant (omega arith) refl c.put_pair-tally.ensures

pub returns : goal.returns
returns c = all_made c.requires c.loop-k.invariant (omega arith) c.put_single.ensures
