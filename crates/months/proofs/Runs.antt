-- After any calls each account holds the history of its party.
-- Assumes nothing.
use mathlib.Core.Path.{◌≡◌, refl, sym, subst, ◌∙◌}
use mathlib.Core.Bool.{Bool, true, false, cond}
use mathlib.Core.List.{List, [], ◌++◌, append-nil, append_assoc}
use Prim.Native.Nat.{ℕ}
use lib.Dec.{eqb}
use lib.IntN.{ℤ}
use borrow.Author.Tests.{eqb-true, eqb-false}
use Rattle.months.specs.Accounts.{History, Holds}
use Rattle.months.specs.Months.{length_of, unknown_party, account}
use Rattle.months.specs.Runs.{Keeps, Made, Calls, none, more, Run, block_in, history_of, AfterAnyCalls}
use Rattle.months.proofs.Holding.{account_limits}
use Rattle.months.proofs.Steps.{length_stays, account_stays, own_history}

length_after : {month month' : List ℤ} {made : List Made} → Calls month made month' → length_of month' ≡ length_of month
length_after none = refl
length_after (more made keeps later) = length_after later ∙ length_stays keeps

module _ (p : ℕ) (known : unknown_party p ≡ false) where
  -- one call more, by whether it is the party's own
  pub one_more : {month month' : List ℤ} {history : History} (made : Made) (own : Bool) → eqb made.party p ≡ own
      → Keeps made.party month made.call month' made.seen → Holds (length_of month) (account p month) history
      → Holds (length_of month') (account p month') (history ++ cond own (block_in made.call made.seen) [])
  one_more {month} {month'} {history} made true e keeps held =
      let is = eqb-true made.party p e in
      subst (λ q. Holds (length_of month') (account q month') (history ++ block_in made.call made.seen)) is
      (own_history history (rw is held) keeps)
  one_more made false e keeps held =
      rw (append-nil, length_stays keeps, account_stays p known (λ is. eqb-false made.party p e (sym is)) keeps) held

  held_after : (history : History) {month month' : List ℤ} {made : List Made} → Holds (length_of month) (account p month) history
      → Calls month made month' → Holds (length_of month') (account p month') (history ++ history_of p made)
  unfolding history_of
  held_after history held none = rw append-nil held
  held_after history held (more made keeps later) =
      rw (← append_assoc) (held_after (history ++ cond (eqb made.party p) (block_in made.call made.seen) [])
      (one_more made (eqb made.party p) refl keeps held) later)

pub after_any_calls : {N : ℕ} {made : List Made} {month : List ℤ} → Run N made month → AfterAnyCalls N made month
after_any_calls run =
    let holds : (p : ℕ) → unknown_party p ≡ false → Holds _ _ _ =
    λ p known. held_after p known [] (run.begun.empty p known) run.calls in
    record {
      length = length_after run.calls ∙ run.begun.length;
      holds = holds;
      limits = λ p known. account_limits (holds p known);
    }
