-- `report::put_spectra` meets its contract. Assumes nothing.
use borrow.Author.Rules.{rules}
use Rattle.report.proofs.Printing.{some_samples, no_blocks, one_more, block_ready, block_room, spectra_put}
use Rattle.report.proofs.put_spectra.Goals as goal

pub nonzero_div-block-end : goal.nonzero_div-block-end
nonzero_div-block-end c = search (rules, some_samples)

pub loop-block-init : goal.loop-block-init
loop-block-init c = search (rules, no_blocks)

pub put_block-at-requires : goal.put_block-at-requires
put_block-at-requires c = (search (rules, block_ready), search (rules, block_room))

pub loop-block-preserved : goal.loop-block-preserved
loop-block-preserved c = search (rules, one_more)

pub returns : goal.returns
returns c = search (rules, spectra_put)
