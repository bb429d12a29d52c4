-- `text::columns::put_right` meets its contract: the spaces, then the text. Assumes nothing.
use native.Mathlib.Omega.{arith}
use mathlib.Core.Path.{refl}
use Rattle.text.proofs.Alignment.{right_put}
use Rattle.text.proofs.columns.put_right.Goals as goal

pub returns : goal.returns
returns c = right_put _ _ _ _ _ _ refl (omega arith) (c.fill.ensures.after (λ _ e. e)) c.put.ensures
