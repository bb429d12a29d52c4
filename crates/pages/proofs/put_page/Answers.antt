-- `pages::put_page` meets its contract. Assumes nothing.
use native.Mathlib.Omega.{arith}
use borrow.Author.Rules.{rules}
use Rattle.pages.proofs.Lines.{no_lines, line_more, page_put}
use Rattle.pages.proofs.put_page.Goals as goal

pub loop-k-init : goal.loop-k-init
loop-k-init c = search (rules, no_lines)

pub loop-k-preserved : goal.loop-k-preserved
loop-k-preserved c = line_more _ _ _ c.loop-k.invariant c.put_line-next.ensures (omega arith) (search rules) (search rules)

pub returns : goal.returns
returns c = page_put _ _ _ c.put-next.ensures c.loop-k.invariant (omega arith)
