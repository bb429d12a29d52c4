-- The DFTs of a, then those of b behind them, joined by the laws of PairRuns.
use Rattle.std.proofs.Common.{arith, rules}
use Rattle.blocks.proofs.BlockRuns.{nothing_made, spectrum_ready}
use Rattle.blocks.proofs.PairRuns.{front_ready, front_made, b_ready, parts_ready, pair_made}
use Rattle.blocks.proofs.pair_of.Goals as goal

pub both_dfts-of_a-requires : goal.both_dfts-of_a-requires
both_dfts-of_a-requires c = rw (nothing_made c.default.ensures) (spectrum_ready c.requires.0.block_ok c.requires.0.room)

pub both_dfts-of_b-requires : goal.both_dfts-of_b-requires
both_dfts-of_b-requires c =
    let (a, b, _, _) = c.requires in
    let of_a = rw (nothing_made c.default.ensures) at c.both_dfts-of_a.ensures in
    front_ready _ b.whole b.block_ok (λ ok. b_ready a.block_ok ok a.room of_a)

pub join_parts-spent-requires : goal.join_parts-spent-requires
join_parts-spent-requires c =
    let (a, b, real, imaginary) = c.requires in
    let of_a = rw (nothing_made c.default.ensures) at c.both_dfts-of_a.ensures in
    let of_b = front_made _ b.whole b.block_ok c.both_dfts-of_b.ensures in
    parts_ready a.block_ok b.block_ok a.room of_a of_b _ _ (omega (arith, real, imaginary))

pub returns : goal.returns
returns c =
    let (a, b, real, imaginary) = c.requires in
    let of_a = rw (nothing_made c.default.ensures) at c.both_dfts-of_a.ensures in
    let of_b = front_made _ b.whole b.block_ok c.both_dfts-of_b.ensures in
    let cleared = c.fill.ensures.after (search rules) in
    pair_made a.block_ok b.block_ok a.room of_a of_b (omega (arith, real, imaginary)) c.join_parts-spent.ensures cleared
