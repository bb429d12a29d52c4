-- The DCT of the block loaded in its order.
use Rattle.std.proofs.Common.{arith, rules}
use Rattle.blocks.proofs.BlockRuns.{nothing_made, dct_ready, dct_sized, cosine_made}
use Rattle.blocks.proofs.cosine_of.Goals as goal

pub dct-spent-requires : goal.dct-spent-requires
dct-spent-requires c =
    rw (nothing_made c.default.ensures) (dct_ready c.requires.0.block_ok c.load.ensures (omega (arith, c.requires.0.room)))

pub store-requires-clause-by_index : goal.store-requires-clause-by_index
store-requires-clause-by_index c =
    let made = rw (nothing_made c.default.ensures) at c.dct-spent.ensures in
    dct_sized c.requires.0.block_ok c.load.ensures made

pub returns : goal.returns
returns c =
    let made = rw (nothing_made c.default.ensures) at c.dct-spent.ensures in
    let cleared = c.fill.ensures.after (search rules) in
    cosine_made c.requires.0.block_ok c.load.ensures made (omega (arith, c.requires.0.room)) c.store.ensures cleared
