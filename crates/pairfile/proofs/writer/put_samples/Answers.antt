-- `pairfile::writer::put_samples` meets its contract. Assumes nothing.
use native.Mathlib.Omega.{arith}
use borrow.Author.Rules.{rules}
use Rattle.pairfile.proofs.Samples.{no_sample, sample_more}
use Rattle.pairfile.proofs.writer.put_samples.Goals as goal

pub loop-x-init : goal.loop-x-init
loop-x-init c = no_sample (omega arith)

pub loop-x-preserved : goal.loop-x-preserved
loop-x-preserved c = search (rules, sample_more)
