-- One call on a month, by its promise: what becomes of each party's account, and of the month's length.
-- Assumes nothing.
use mathlib.Core.Path.{◌≡◌, refl, sym, ap, ◌∙◌}
use mathlib.Core.Bool.{false}
use mathlib.Core.List.{List, [], ◌∷◌, ◌++◌, append-nil}
use mathlib.Core.Logic.{⊎_elim}
use Prim.Native.Nat.{ℕ}
use lib.IntN.{ℤ}
use Rattle.std.specs.Prelude.{Result}
use Rattle.words.specs.Words.{Samples}
use Rattle.counts.specs.declared.tally.Tally.{Tally}
use Rattle.refusals.specs.declared.refusal.Refusal.{Refusal}
use Rattle.refusals.specs.Refusals.{Verdict, refused_at, accepted}
use Rattle.refusals.specs.Answers.{answered}
use Rattle.refusals.proofs.Promises.{not_both, past_test, accepted_or_not}
use Rattle.spectra.specs.Promises.{Buffers}
use Rattle.months.specs.Accounts.{History, Holds}
use Rattle.months.specs.Months.{length_of, unknown_party, account, other_length}
use Rattle.months.specs.Promises.{Given, block_of, AddPromise}
use Rattle.months.specs.Runs.{PartyCall, Seen, Keeps, adds, tells_number, tells_sums, tells_length, if_accepted, block_in}
use Rattle.months.proofs.Lengths.{length_same}
use Rattle.months.proofs.AddRuns.{own_length}

-- ---- adding
one_more : (v : Verdict) (x : Samples) {N : ℕ} {account : List ℤ} {history : History} → ((v ≡ accepted → ⊥) → Holds N account history)
    → (v ≡ accepted → Holds N account (history ++ (x ∷ []))) → Holds N account (history ++ if_accepted v x)
one_more (refused_at n i) x stays more = rw append-nil (stays not_both)
one_more accepted x stays more = more refl

module _ (p : ℕ) (g : Given) (month month' : List ℤ) (lent' : Buffers) (answer : Result Tally Refusal)
    (made : AddPromise p g month month' lent' answer) where
  either : {A : Type 0} → (answered answer ≡ accepted → A) → ((answered answer ≡ accepted → ⊥) → A) → A
  either done unchanged = ⊎_elim done unchanged (accepted_or_not (answered answer))

  length_kept : length_of month' ≡ length_of month
  length_kept = either (λ e. length_same month month' (made.done e).others.mark) (λ e. ap length_of (made.unchanged e).0)

  other_kept : (q : ℕ) → unknown_party q ≡ false → (q ≡ p → ⊥) → account q month' ≡ account q month
  other_kept q known ne = either (λ e. (made.done e).others.accounts q known ne) (λ e. ap (account q) (made.unchanged e).0)

  -- an accepted block is of the month's length
  of_length : answered answer ≡ accepted → length_of month ≡ g.N
  of_length e =
      let (known, then) = past_test 15 (unknown_party p) (sym made.verdict ∙ e) in
      (own_length month g.N (past_test 13 (other_length month g.N) then).0).0

  -- the party's own account holds its history, with this block at its end where it was accepted
  own_more : (history : History) → Holds (length_of month) (account p month) history
      → Holds (length_of month') (account p month') (history ++ if_accepted (answered answer) (block_of g))
  own_more history held =
      rw length_kept
      (one_more (answered answer) (block_of g) {history = history}
      (λ e. rw (made.unchanged e).0 held)
      (λ e. rw (of_length e) ((made.done e).own.holds history (rw (of_length e) at held))))

-- ---- any call of a party
module _ {q : ℕ} {month : List ℤ} where
  pub length_stays : {call : PartyCall} {month' : List ℤ} {seen : Seen} → Keeps q month call month' seen →
      length_of month' ≡ length_of month
  length_stays (adds g month' lent' answer p) = length_kept q g month month' lent' answer p
  length_stays (tells_number answer p) = refl
  length_stays (tells_sums k answer p) = refl
  length_stays tells_length = refl

  pub account_stays : (p : ℕ) {call : PartyCall} {month' : List ℤ} {seen : Seen} → unknown_party p ≡ false → (p ≡ q → ⊥)
      → Keeps q month call month' seen → account p month' ≡ account p month
  account_stays p known ne (adds g month' lent' answer made) = other_kept q g month month' lent' answer made p known ne
  account_stays p known ne (tells_number answer made) = refl
  account_stays p known ne (tells_sums k answer made) = refl
  account_stays p known ne tells_length = refl

  pub own_history : (history : History) {call : PartyCall} {month' : List ℤ} {seen : Seen}
      → Holds (length_of month) (account q month) history → Keeps q month call month' seen
      → Holds (length_of month') (account q month') (history ++ block_in call seen)
  own_history history held (adds g month' lent' answer made) = own_more q g month month' lent' answer made history held
  own_history history held (tells_number answer made) = rw append-nil held
  own_history history held (tells_sums k answer made) = rw append-nil held
  own_history history held tells_length = rw append-nil held
