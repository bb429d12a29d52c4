-- `pairfile::writer::write` meets its contract: behind its first tests, a sample out of range, or none. Assumes nothing.
use borrow.Author.Rules.{rules}
use Rattle.pairfile.proofs.WriteVerdicts.{a_out, b_out, too_short, written}
use Rattle.pairfile.proofs.writer.write.Goals as goal

pub returns-in-Some : goal.returns-in-Some
returns-in-Some c = search (rules, a_out)

pub returns-in-Some-place : goal.returns-in-Some-place
returns-in-Some-place c = search (rules, b_out)

pub returns-then-file-m : goal.returns-then-file-m
returns-then-file-m c = search (rules, too_short)

pub returns : goal.returns
returns c = search (rules, written)
