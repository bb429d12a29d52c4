-- `text::put_decimal` meets its contract: the sign, then the digits. Assumes nothing.
use Rattle.text.proofs.Runs.{parts_put}
use native.Mathlib.Omega.{arith}
use Rattle.std.proofs.lemmas.Grind.{common_steps}
use Rattle.text.specs.Decimal.{number, decimal}
use Rattle.text.proofs.put_decimal.Goals as goal

pub returns : goal.returns
returns c = parts_put (decimal c.args.x) (number c.from.result) _ (grind (arith, common_steps)) c.put-behind.ensures c.put_number.ensures
