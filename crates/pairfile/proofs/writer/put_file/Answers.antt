-- `pairfile::writer::put_file` meets its contract: the sizes and the samples, one behind another. Assumes nothing.
use borrow.Author.Rules.{rules}
use Rattle.pairfile.proofs.OwnFiles.{file_put}
use Rattle.pairfile.proofs.writer.put_file.Goals as goal

pub returns : goal.returns
returns c = search (rules, file_put)
