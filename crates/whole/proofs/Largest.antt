-- The largest of some numbers (`largest` of specs/Largest): it is one that none of them exceeds, and the least such.
-- Assumes nothing.
use mathlib.Core.Path.{◌≡◌, refl, ap, ap₂}
use mathlib.Core.Logic.{⊎_elim}
use Prim.Native.Nat.{ℕ, zero, suc, ◌+◌, ◌-◌, ◌*◌, ◌≤◌, ◌<◌, max}
use native.Mathlib.Omega.{arith}
use Rattle.whole.proofs.Cases.{le_or_lt}
use Rattle.whole.specs.Largest.{largest}

pub largest_at : (n : ℕ) (f : ℕ → ℕ) (i : ℕ) → i < n → f i ≤ largest n f
unfolding largest
largest_at zero f i h = absurd (omega arith)
largest_at (suc n) f i h = ⊎_elim
    (λ l. let here : f i ≡ f n = ap f (omega arith) in omega arith)
    (λ l. omega (arith, largest_at n f i l))
    (le_or_lt n i)

pub largest_least : (n : ℕ) (f : ℕ → ℕ) (m : ℕ) → ((i : ℕ) → i < n → f i ≤ m) → largest n f ≤ m
unfolding largest
largest_least zero f m h = omega arith
largest_least (suc n) f m h = omega (arith, h n (omega arith), largest_least n f m (λ i l. h i (omega arith)))

pub largest_none : (f : ℕ → ℕ) → largest 0 f ≡ 0
unfolding largest
largest_none f = refl

-- one more
pub largest_more : (n m : ℕ) (f : ℕ → ℕ) → m ≡ n + 1 → largest m f ≡ max (largest n f) (f n)
unfolding largest
largest_more n m f e = ap (λ k. largest k f) {x = m} {y = suc n} (omega arith)

pub largest_same : (n : ℕ) (f g : ℕ → ℕ) → ((i : ℕ) → i < n → f i ≡ g i) → largest n f ≡ largest n g
unfolding largest
largest_same zero f g e = refl
largest_same (suc n) f g e = ap₂ max (largest_same n f g (λ i l. e i (omega arith))) (e n (omega arith))

-- ---- 2 a + 1 numbers from both ends: a pairs of the first and the last that is left, and the one in the middle
abbrev pub both_ends : ℕ → (ℕ → ℕ) → ℕ → ℕ
both_ends a f i = max (f i) (f (2 * a - i))

pub largest_by_pairs : (a : ℕ) (f : ℕ → ℕ) → max (largest a (both_ends a f)) (f a) ≡ largest (2 * a + 1) f
largest_by_pairs a f = omega (arith, at_most_lem, at_least, largest_at (2 * a + 1) f a (omega arith))
  where
    pairs : ℕ
    pairs = largest a (both_ends a f)

    covered : (i : ℕ) → i < 2 * a + 1 → f i ≤ max pairs (f a)
    covered i h = ⊎_elim
        (λ l. ⊎_elim
        (λ g.
        let p = largest_at a (both_ends a f) (2 * a - i) (omega arith) in
        let back : f (2 * a - (2 * a - i)) ≡ f i = ap f (omega arith) in
        omega arith)
        (λ g. let here : f i ≡ f a = ap f (omega arith) in omega arith)
        (le_or_lt (suc a) i))
        (λ l. omega (arith, largest_at a (both_ends a f) i l))
        (le_or_lt a i)

    at_most_lem : largest (2 * a + 1) f ≤ max pairs (f a)
    at_most_lem = largest_least (2 * a + 1) f _ covered

    at_least : pairs ≤ largest (2 * a + 1) f
    at_least = largest_least a (both_ends a f) _
        (λ i h. omega (arith, largest_at (2 * a + 1) f i (omega arith), largest_at (2 * a + 1) f (2 * a - i) (omega arith)))
