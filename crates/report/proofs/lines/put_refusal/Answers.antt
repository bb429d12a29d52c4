-- `report::lines::put_refusal` meets its contract: the word, the number and the line feed. Assumes nothing.
use Rattle.words.proofs.Putting.{◌then◌}
use Rattle.report.proofs.lines.put_refusal.Goals as goal

pub returns : goal.returns
returns c = c.put-behind.ensures then (rw c.from.ensures at c.put_number.ensures)
