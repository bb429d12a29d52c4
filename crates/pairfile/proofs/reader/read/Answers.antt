-- `pairfile::read` meets its contract: behind the tests of lengths, a sample out of range, or none. Assumes nothing.
use borrow.Author.Rules.{rules}
use Rattle.pairfile.proofs.Verdicts.{a_out, b_out, read_done}
use Rattle.pairfile.proofs.reader.read.Goals as goal

pub returns-in-Some : goal.returns-in-Some
returns-in-Some c = search (rules, a_out)

pub returns-in-Some-place : goal.returns-in-Some-place
returns-in-Some-place c = search (rules, b_out)

pub returns : goal.returns
returns c = search (rules, read_done)
