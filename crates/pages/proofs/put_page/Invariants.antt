-- When the loop of `pages::put_page` comes to k, the lines before it are put behind the heading.
use Rattle.words.specs.Words.{word}
use Rattle.pages.proofs.Lines.{LinesPut}
use Rattle.pages.proofs.put_page.Given as goal

abbrev pub invariant-loop-k : goal.invariant-loop-k
invariant-loop-k l = LinesPut (word l.cosine) (word l.sine) l.k l.initial.page l.initial.next l.next l.page
