-- When the loop of `report::lines::put_lines` comes to k, the first k lines are put.
use Rattle.words.specs.Words.{word}
use Rattle.report.proofs.LineRuns.{LinesPut}
use Rattle.report.proofs.lines.put_lines.Given as goal

abbrev pub invariant-loop-k : goal.invariant-loop-k
invariant-loop-k l = LinesPut l.block (word l.real) (word l.imaginary) l.k l.initial.page l.fn.at l.next l.page
