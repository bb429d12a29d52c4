-- A run of adding to a month, for a party and a block of the month's length: the promise at its end.
-- Assumes nothing.
use mathlib.Core.Path.{◌≡◌, refl, sym, ◌∙◌}
use mathlib.Core.Bool.{true, false, cond}
use mathlib.Core.List.{List}
use mathlib.Core.Logic.{⊎_elim}
use Prim.Native.Nat.{ℕ}
use lib.Dec.{eqb}
use lib.IntN.{ℤ}
use lib.ListN.{length}
use borrow.Author.Tests.{eqb-true, eqb-false, not-false}
use Rattle.std.specs.Prelude.{Result}
use Rattle.whole.proofs.Cases.{same_or_not}
use Rattle.lengths.specs.Block.{is_length}
use Rattle.counts.specs.declared.tally.Tally.{Tally}
use Rattle.refusals.specs.declared.refusal.Refusal.{Refusal}
use Rattle.refusals.specs.Calls.{tests, verdict}
use Rattle.refusals.specs.Refusals.{refused}
use Rattle.refusals.proofs.Conditions.{none_of}
use Rattle.spectra.specs.Promises.{Buffers}
use Rattle.months.specs.declared.party.Party.{Party}
use Rattle.months.specs.Accounts.{full}
use Rattle.months.specs.Months.{month_words, length_of, account, other_length, add_verdict, OthersStay}
use Rattle.months.specs.Parties.{number_of}
use Rattle.months.specs.Promises.{Given, call_of, ForParty, AddPromise}
use Rattle.months.proofs.Lengths.{length_some}
use Rattle.months.proofs.Parties.{known_party, whole}

-- ---- the block's length is the month's
pub own_length : (month : List ℤ) (N : ℕ) → other_length month N ≡ false → (length_of month ≡ N) × (is_length N ≡ true)
own_length month N e =
    let (some, same) = none_of (eqb (length_of month) 0) _ e in
    let is = eqb-true (length_of month) N (not-false _ same) in
    (is, rw is at (length_some month (eqb-false (length_of month) 0 some)))

-- ---- where the account stays, the month does
unchanged : (p : ℕ) {month month' : List ℤ} → length month ≡ month_words → OthersStay p month month'
    → account p month' ≡ account p month → month' ≡ month
unchanged p {month} {month'} long others own =
    whole month month' others.len others.mark
    (λ q g. ⊎_elim (λ e. rw e own) (λ ne. others.accounts q g ne) (same_or_not q p)) long

-- ---- a run, of a party and a block of the month's length
module _ (party : Party) (g : Given) (month : List ℤ) (own : other_length month g.N ≡ false) where
  by_account : add_verdict (number_of party) month (call_of g)
      ≡ cond (full (account (number_of party) month)) (refused 14) (verdict (call_of g))
  unfolding tests
  by_account = rw (known_party party, own, (own_length month g.N own).1) refl

  pub added_for : {p : ℕ} {month' : List ℤ} {lent' : Buffers} {answer : Result Tally Refusal} → number_of party ≡ p
      → length month ≡ month_words → ForParty (number_of party) g month month' lent' answer → AddPromise p g month month' lent' answer
  added_for at long q =
      rw (← at) (record {
        verdict = q.own.verdict ∙ sym by_account;
        unchanged = λ e. let (account_stays, buffers-stay) = q.own.unchanged e in
            (unchanged (number_of party) long q.others account_stays, buffers-stay);
        done = λ e. record { own = q.own.done e; others = q.others };
      })
