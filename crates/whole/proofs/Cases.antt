-- Two natural numbers compared, and computed tests: what a definition by tests is taken apart with.
-- Assumes nothing.
use mathlib.Core.Path.{◌≡◌, subst}
use mathlib.Core.Logic.{◌⊎◌, inl, inr, ⊎_elim}
use mathlib.Core.Bool.{Bool, true, false}
use Prim.Native.Nat.{ℕ, zero, suc, ◌≤◌, ◌<◌}
use native.Mathlib.Decide.{dec_le}
use native.Mathlib.Omega.{arith}
use lib.Dec.{T}

pub le_or_lt : (m n : ℕ) → (m ≤ n) ⊎ (n < m)
le_or_lt m n = from (dec_le m n)
  where
    from : Dec (m ≤ n) → (m ≤ n) ⊎ (n < m)
    from (yes l) = inl l
    from (no l) = inr (omega arith)

pub same_or_not : (m n : ℕ) → (m ≡ n) ⊎ (m ≡ n → ⊥)
same_or_not m n = ⊎_elim (λ l. ⊎_elim (λ g. inl (omega arith)) (λ g. inr (λ e. omega arith)) (le_or_lt n m))
    (λ l. inr (λ e. omega arith)) (le_or_lt m n)

-- ---- tests that the checker computes
-- (shut, unlike the library's `◌&&◌`, so that the two tests are inferred from a hypothesis)
unfoldable pub both : Bool → Bool → Bool
both true b = b
both false b = false

pub both_left : (a b : Bool) → T (both a b) → T a
unfolding both
both_left true b t = tt
both_left false b t = t

pub both_right : (a b : Bool) → T (both a b) → T b
unfolding both
both_right true b t = t
both_right false b t = absurd t

-- a test of every number below n, and what it says of one of them
unfoldable pub below : ℕ → (ℕ → Bool) → Bool
below zero p = true
below (suc n) p = both (p n) (below n p)

pub below_at : (n : ℕ) (p : ℕ → Bool) → T (below n p) → (i : ℕ) → i < n → T (p i)
unfolding below
below_at zero p t i h = absurd (omega arith)
below_at (suc n) p t i h = ⊎_elim
    (λ l. subst (λ j. T (p j)) {x = n} {y = i} (omega arith) (both_left _ _ t))
    (λ l. below_at n p (both_right _ _ t) i l)
    (le_or_lt n i)
