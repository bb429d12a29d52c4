-- `first_beyond`, the first number beyond a limit, as a sample out of range: what it is where all are within the limit, and where one is
-- the first that is not.
-- Assumes nothing.
use mathlib.Core.Path.{◌≡◌, refl, ◌∙◌}
use mathlib.Core.Logic.{⊎_elim}
use Prim.Native.Nat.{ℕ, zero, suc, ◌+◌, ◌≤◌, ◌<◌}
use native.Mathlib.Omega.{arith}
use lib.IntN.{nat_abs}
use borrow.Author.Tests.{le-leb, lt-leb}
use Rattle.whole.proofs.Cases.{le_or_lt}
use Rattle.words.specs.Words.{Samples}
use Rattle.refusals.specs.Refusals.{first_beyond}
use Rattle.refusals.specs.Passes.{AllWithin, FirstAt}

module _ (m : ℕ) (x : Samples) where
  -- ---- a turn goes on, or ends the search
  first_on : (i d : ℕ) → nat_abs (x i) ≤ m → first_beyond m x i (suc d) ≡ first_beyond m x (suc i) d
  unfolding first_beyond
  first_on i d h = rw (le-leb _ _ h)

  first_here : (i d : ℕ) → m < nat_abs (x i) → first_beyond m x i (suc d) ≡ i
  unfolding first_beyond
  first_here i d h = rw (lt-leb _ _ h)

  first_none : (i : ℕ) → first_beyond m x i 0 ≡ i
  unfolding first_beyond
  first_none i = refl

  -- ---- where all are within the limit it is the end
  pub first_end : (i d : ℕ) → AllWithin m x i (i + d) → first_beyond m x i d ≡ i + d
  first_end i zero h = first_none i ∙ omega arith
  first_end i (suc d) h =
      first_on i d (h i (omega arith) (omega arith)) ∙ first_end (suc i) d (λ j l k. h j (omega arith) (omega arith)) ∙ omega arith

  -- ---- else the place of the first
  pub first_place : (i d : ℕ) {place : ℕ} → FirstAt m x i d place → first_beyond m x i d ≡ place
  first_place i zero f = absurd (omega arith)
  first_place i (suc d) {place} f = ⊎_elim
      (λ h. first_on i d (f.before i (omega arith) h) ∙ first_place (suc i) d (later f h))
      (λ h. let same : place ≡ i = omega (arith, h, f.from) in rw same (first_here i d (rw same at f.beyond)))
      (le_or_lt (suc i) place)
    where
      later : {i d place : ℕ} → FirstAt m x i (suc d) place → suc i ≤ place → FirstAt m x (suc i) d place
      later f h = record { from = h; to = omega (arith, f.to); before = λ j l k. f.before j (omega arith) k; beyond = f.beyond }

  -- ---- and the converse: where it comes to the end, all are within the limit
  pub all_within : (i d : ℕ) → i + d ≤ first_beyond m x i d → AllWithin m x i (i + d)
  all_within i zero h j l k = absurd (omega arith)
  all_within i (suc d) h j l k = ⊎_elim
      (λ (w : nat_abs (x i) ≤ m). ⊎_elim
      (λ e. all_within (suc i) d (omega (arith, h, first_on i d w)) j e (omega arith))
      (λ e. let same : i ≡ j = omega arith in rw same at w)
      (le_or_lt (suc i) j))
      (λ b. absurd (omega (arith, h, first_here i d b)))
      (le_or_lt (nat_abs (x i)) m)
