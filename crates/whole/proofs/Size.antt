-- The size |z| of a whole number (`nat_abs` of the library), and bounds of it.
-- Assumes nothing.
use mathlib.Core.Path.{◌≡◌, refl, ap₂, subst}
use mathlib.Core.Logic.{◌⊎◌, inl, inr, ⊎_elim}
use Prim.Native.Nat.{ℕ, zero, suc, ◌+◌, ◌*◌, ◌-◌, ◌^◌, ◌<◌, ◌≤◌}
use native.Mathlib.Nat.{le_refl, mul-suc, mul-le-mul, le_of_mul-le-mul_left}
use native.Mathlib.Omega.{arith}
use lib.IntN.{ℤ, pos, negsuc, neg_ℤ, nat_abs, ◌+ℤ◌, ◌-ℤ◌, ◌*ℤ◌}
use lib.Signed.{mag}
use mir.Syntax.{Width}
use mir.Val.{SFits, hbits}
use Rattle.whole.proofs.Difference.{◌⊖◌, plus, minus, parts, ⊖-parts, ⊖-eq, product_parts, diff, int}
use Rattle.whole.proofs.Order.{⊖-le, ⊖-lt}

-- |z| is at most m. A record, so that z and m are inferred from a hypothesis, and over the two parts, so that omega reads it
infix 4 ◌within◌
pub record ◌within◌ (z : ℤ) (m : ℕ) : Type 0 where
  pub high : plus z ≤ minus z + m
  pub low : minus z ≤ plus z + m

size_parts : (z : ℤ) → nat_abs z ≡ plus z + minus z
unfolding plus minus
size_parts (pos n) = omega arith
size_parts (negsuc n) = omega arith

one_part : (z : ℤ) → (plus z ≡ 0) ⊎ (minus z ≡ 0)
unfolding plus minus
one_part (pos n) = inr refl
one_part (negsuc n) = inl refl

pub within_size : {z : ℤ} {m : ℕ} → z within m → nat_abs z ≤ m
within_size {z} h = ⊎_elim (λ e. omega (arith, size_parts z)) (λ e. omega (arith, size_parts z)) (one_part z)

pub size_within : (z : ℤ) {m : ℕ} → nat_abs z ≤ m → z within m
size_within z h = record { high = omega (arith, size_parts z); low = omega (arith, size_parts z) }

-- a bound of a difference: as a goal, and as a hypothesis
pub ⊖-within : (p n m : ℕ) → (p - n) + (n - p) ≤ m → p ⊖ n within m
⊖-within p n m h = record { high = omega (arith, ⊖-parts p n); low = omega (arith, ⊖-parts p n) }

pub within-⊖ : (p n m : ℕ) → p ⊖ n within m → (p ≤ n + m) × (n ≤ p + m)
within-⊖ p n m h = omega (arith, ⊖-parts p n)

-- a number and the same with its sign changed; the size of a difference
pub size_neg : (z : ℤ) → nat_abs (neg_ℤ z) ≡ nat_abs z
size_neg (pos zero) = refl
size_neg (pos (suc n)) = refl
size_neg (negsuc n) = refl

pub size-⊖ : (p n : ℕ) → nat_abs (p ⊖ n) ≡ (p - n) + (n - p)
size-⊖ p n = ⊎_elim (λ e. omega (arith, size_parts (p ⊖ n), ⊖-parts p n)) (λ e. omega (arith, size_parts (p ⊖ n), ⊖-parts p n))
    (one_part (p ⊖ n))

-- what omega takes once `simp diff` has done its work: numbers, and an equation, an order or a bound of differences
pub ruleset near = (arith, ⊖-eq, ⊖-le, ⊖-lt, ⊖-within)

-- ---- bounds of the operations
pub within_le : {z : ℤ} {m k : ℕ} → z within m → m ≤ k → z within k
within_le h l = record { high = omega arith; low = omega arith }

pub within_eq : {x y : ℤ} {m : ℕ} → x ≡ y → x within m → y within m
within_eq {m = m} e h = subst (λ z. z within m) e h

pub within_int : (n : ℕ) → int n within n
within_int n = simp diff (omega near)

pub within_neg : {a : ℤ} {m : ℕ} → a within m → neg_ℤ a within m
within_neg {a} h = rw (parts a) (simp diff (omega near))

pub within_add : {a b : ℤ} {m k : ℕ} → a within m → b within k → a +ℤ b within m + k
within_add {a} {b} h l = rw (parts a, parts b) (simp diff (omega near))

pub within_sub : {a b : ℤ} {m k : ℕ} → a within m → b within k → a -ℤ b within m + k
within_sub h l = within_add h (within_neg l)

pub size_mul : (a b : ℤ) → nat_abs (a *ℤ b) ≡ nat_abs a * nat_abs b
size_mul a b =
    let x = product_parts a b in
    omega (arith, size_parts (a *ℤ b), ap₂ ◌*◌ (size_parts a) (size_parts b))

pub size_int : (n : ℕ) → nat_abs (int n) ≡ n
unfolding int
size_int n = refl

pub within_mul : {a b : ℤ} {m k : ℕ} → a within m → b within k → a *ℤ b within m * k
within_mul {a} {b} h l = size_within (a *ℤ b) (rw size_mul (mul-le-mul (within_size h) (within_size l)))

-- telescoping: from a to b, from b to c
pub within_trans : (a b c : ℤ) {m k : ℕ} → a -ℤ b within m → b -ℤ c within k → a -ℤ c within m + k
within_trans a b c h l =
    let h' = within-⊖ _ _ _ (simp diff at (rw (parts a, parts b) at h)) in
    let l' = within-⊖ _ _ _ (simp diff at (rw (parts b, parts c) at l)) in
    rw (parts a, parts c) (simp diff (omega near))

-- a common factor is taken out of a bound
pub within_cancel : (b : ℕ) {z : ℤ} {m : ℕ} → 0 < b → int b *ℤ z within b * m → z within m
within_cancel b {z} {m} l h = size_within z (le_of_mul-le-mul_left {k = b} (rw (size_mul, size_int) at (within_size h)) l)

-- a multiple of b that is less than b is 0
pub within_less : (b : ℕ) {z : ℤ} → 0 < b → int b *ℤ z within b - 1 → z within 0
within_less b {z} l h = size_within z (none (nat_abs z) (rw (size_mul, size_int) at (within_size h)))
  where
    none : (n : ℕ) → b * n ≤ b - 1 → n ≤ 0
    none zero u = omega arith
    none (suc n) u = omega (arith, mul-suc b n)

pub within_same : (p q : ℤ) → p -ℤ q within 0 → p ≡ q
within_same p q h =
    let e = within-⊖ _ _ _ (simp diff at (rw (parts p, parts q) at h)) in
    rw (parts p, parts q) (omega near)

-- ---- the triangle inequality
pub size_add : (a b : ℤ) → nat_abs (a +ℤ b) ≤ nat_abs a + nat_abs b
size_add a b = within_size (within_add (size_within a (le_refl _)) (size_within b (le_refl _)))

-- ---- a number whose size is below half a word fits the signed word
pub within_fits : {w : Width} {z : ℤ} {m : ℕ} → z within m → m < 2 ^ hbits w → SFits w z
within_fits {w} {z} h l = record { sfits = omega (arith, within_size h, mag_size z) }
  where
    mag_size : (z : ℤ) → mag z ≤ nat_abs z
    mag_size (pos n) = omega arith
    mag_size (negsuc n) = omega arith
