-- In a month that is begun each account holds a history, and so it does in one to which was added; and the sums that are read of such a
-- month are small.
-- Assumes nothing.
use mathlib.Core.Path.{◌≡◌, refl, sym}
use mathlib.Core.Bool.{Bool, true, false, cond, not, ◌&&◌, false≢true}
use mathlib.Core.List.{[], ◌++◌}
use Prim.Native.Nat.{ℕ, ◌/◌}
use native.Mathlib.Omega.{arith}
use lib.Dec.{eqb, leb}
use lib.IntN.{ℤ}
use borrow.Author.Tests.{leb-true}
use Rattle.std.specs.Prelude.{List, Result, Ok, Err, IfOk, ⊤}
use Rattle.std.specs.Coded.{×_prop, le_prop}
use Rattle.std.proofs.Math.Logic.{∥∥₁_map, ∥∥₁_elim}
use Rattle.counts.specs.declared.tally.Tally.{Tally}
use Rattle.refusals.specs.declared.refusal.Refusal.{Refusal}
use Rattle.refusals.specs.Refusals.{refused, accepted}
use Rattle.refusals.proofs.Promises.{not_both, past_test}
use Rattle.spectra.specs.Promises.{Buffers}
use Rattle.months.specs.declared.account.Sums.{Sums}
use Rattle.months.specs.Months.{length_of, unknown_party, HoldsHistories, yielded}
use Rattle.months.specs.Answers.{SmallSums}
use Rattle.months.specs.Promises.{Given, BeginPromise, AddPromise, SumsPromise}
use Rattle.months.specs.Runs.{add, added, adds, Made, block_in}
use Rattle.months.proofs.Holding.{sums_fit}
use Rattle.months.proofs.Runs.{one_more}

-- ---- beginning
module _ {N : ℕ} {month : List ℤ} {answer : Result ⊤ Refusal} (promise : BeginPromise N month answer) where
  pub begun_holds : HoldsHistories month
  begun_holds = record { history = λ p. []; holds = promise.empty }

  pub begun_held : ∥ HoldsHistories month ∥₁
  begun_held = ∣ begun_holds ∣₁

-- ---- adding
module _ (p : ℕ) (g : Given) {month month' : List ℤ} {lent' : Buffers} {answer : Result Tally Refusal}
    (promise : AddPromise p g month month' lent' answer) where
  pub next_holds : HoldsHistories month → HoldsHistories month'
  next_holds held =
      let made : Made = record { party = p; call = add g; seen = added answer lent' } in
      record {
        history = λ q. held.history q ++ cond (eqb p q) (block_in made.call made.seen) [];
        holds = λ q known. one_more q known made (eqb p q) refl (adds g _ lent' answer promise) (held.holds q known);
      }

  pub next_held : ∥ HoldsHistories month ∥₁ → ∥ HoldsHistories month' ∥₁
  next_held held = ∥∥₁_map held next_holds

-- ---- what is read of a month in which each account holds a history
and_right : (a b : Bool) → (a && b) ≡ true → b ≡ true
and_right true b e = e
and_right false b e = absurd (false≢true e)

accepting : (b : Bool) → cond b accepted (refused 16) ≡ accepted → b ≡ true
accepting true e = refl
accepting false e = absurd (not_both e)

module _ {month : List ℤ} {p k : ℕ} where
  pub sums_small : {sums : Sums} → SumsPromise p month k (Ok sums) → HoldsHistories month → SmallSums sums
  sums_small q held =
      let (known, then) = past_test 15 (unknown_party p) (sym q.verdict) in
      let N = length_of month in
      let inside = leb-true k _ (and_right (not (eqb N 0)) (leb k (N / 2)) (accepting (yielded month k) then)) in
      let holds = held.holds p known in
      let fit = sums_fit holds in
      rw (q.sums refl) (omega (arith, fit.cosine k inside, holds.at_most), omega (arith, fit.sine k inside, holds.at_most))

  pub both_small : {answer : Result Sums Refusal} → ∥ HoldsHistories month ∥₁ → SumsPromise p month k answer → IfOk answer SmallSums
  both_small {answer = Ok sums} held q = ∥∥₁_elim held (×_prop le_prop le_prop) (sums_small q)
  both_small {answer = Err refusal} held q = tt
