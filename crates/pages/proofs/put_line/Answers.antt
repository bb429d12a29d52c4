-- `pages::put_line` meets its contract: its three columns, and what ends them. Assumes nothing.
use native.Mathlib.Omega.{arith}
use Rattle.pages.proofs.Lines.{line_put}
use Rattle.pages.proofs.put_line.Goals as goal

pub returns : goal.returns
returns c =
    line_put c.args.k _ _ (omega arith) c.ranges.cosine c.ranges.sine
    c.put_column-of_cosine.ensures c.put_column-of_sine.ensures c.put_column.ensures
