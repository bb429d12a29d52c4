-- `report::lines::put_lines` meets its contract. Assumes nothing.
use native.Mathlib.Omega.{arith}
use borrow.Author.Rules.{rules}
use Rattle.report.proofs.LineRuns.{no_lines, line_more}
use Rattle.report.proofs.lines.put_lines.Goals as goal

pub loop-k-init : goal.loop-k-init
loop-k-init c = no_lines _ _ _ (omega arith)

pub loop-k-preserved : goal.loop-k-preserved
loop-k-preserved c =
    line_more _ _ _ _ c.loop-k.invariant (omega arith) (omega arith) c.put_line-next.ensures (search rules) (search rules)
