-- A run of both DFTs on the block loaded in pairs.
use Rattle.std.proofs.Common.{rules}
use Rattle.blocks.proofs.BlockRuns.{cosine_ready, sine_ready, dfts_made}
use Rattle.blocks.proofs.both_dfts.Goals as goal

pub cosine_dft-cosine-requires : goal.cosine_dft-cosine-requires
cosine_dft-cosine-requires c = search (rules, cosine_ready)

pub sine_dft-requires : goal.sine_dft-requires
sine_dft-requires c = search (rules, sine_ready)

pub returns : goal.returns
returns c = search (rules, dfts_made)
