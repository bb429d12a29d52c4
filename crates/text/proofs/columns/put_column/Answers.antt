-- `text::columns::put_column` meets its contract: the digits of the number, in their column. Assumes nothing.
use Rattle.text.proofs.Alignment.{end_ready, column_put}
use Rattle.text.proofs.columns.put_column.Goals as goal

pub put-requires : goal.put-requires
put-requires c =
    end_ready c.args.x c.ranges.x _ _ _ c.put_decimal-count.ensures c.args.width c.requires.0 c.put_right-behind.ensures _ c.requires.2

pub returns : goal.returns
returns c =
    column_put c.args.x c.ranges.x _ _ _ c.put_decimal-count.ensures c.args.width c.requires.0 c.put_right-behind.ensures c.put.ensures
