-- When the loop of `report::put_spectra` comes to a block, the lines of the blocks before it are put behind the heading.
use Prim.Native.Nat.{◌*◌}
use Rattle.words.specs.Words.{word}
use Rattle.spectra.specs.Promises.{pair_buffers}
use Rattle.report.specs.Output.{block_lines}
use Rattle.report.specs.Puts.{PutFrom}
use Rattle.report.proofs.put_spectra.Given as goal

abbrev pub invariant-loop-block : goal.invariant-loop-block
invariant-loop-block l =
    PutFrom l.initial.page l.initial.at (block_lines l.n (word l.a) (word l.b) l.block) (34 * (l.block * l.n)) l.at l.page
    (pair_buffers l.initial.real l.initial.imaginary l.initial.scratch)
    (pair_buffers l.real l.imaginary l.scratch)
