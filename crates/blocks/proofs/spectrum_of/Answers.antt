-- Both DFTs stand behind the block, and are stored from there.
use Rattle.std.proofs.Common.{refl, arith, rules}
use Rattle.blocks.proofs.BlockRuns.{nothing_made, spectrum_ready, cosine_sized, sine_sized, spectrum_made}
use Rattle.blocks.proofs.spectrum_of.Goals as goal

pub both_dfts-spent-requires : goal.both_dfts-spent-requires
both_dfts-spent-requires c = rw (nothing_made c.default.ensures) (spectrum_ready c.requires.0.block_ok c.requires.0.room)

pub store-requires-clause-by_index : goal.store-requires-clause-by_index
store-requires-clause-by_index c = cosine_sized c.requires.0.block_ok c.both_dfts-spent.ensures refl

pub store-requires-2-clause-by_index : goal.store-requires-2-clause-by_index
store-requires-2-clause-by_index c = sine_sized c.requires.0.block_ok c.both_dfts-spent.ensures (omega arith) (omega arith)

pub returns : goal.returns
returns c =
    let made = rw (nothing_made c.default.ensures) at c.both_dfts-spent.ensures in
    let cleared = c.fill.ensures.after (search rules) in
    spectrum_made made (omega (arith, c.requires.0.room)) c.store.ensures c.store-2.ensures cleared
