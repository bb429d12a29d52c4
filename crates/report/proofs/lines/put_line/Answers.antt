-- `report::lines::put_line` meets its contract: its four numbers and what ends them are the line. Assumes nothing.
use Rattle.report.proofs.LineRuns.{line_put}
use Rattle.report.proofs.lines.put_line.Goals as goal

pub returns : goal.returns
returns c =
    line_put c.args.block c.args.k _ _ c.ranges.re c.ranges.im
    c.put_number-a.ensures c.put_number-b.ensures c.put_decimal-c.ensures c.put_decimal.ensures
