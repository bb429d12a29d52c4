-- What the code needs: coefficients fit 32 bits, and inside every inner transform the products and sums of the rotation (20) fit 64 bits.
-- An inner transform of length n has samples up to X with n X at most 1,024,000,000: that holds of an accepted block, and the samples of
-- the steps keep it (n/2 with the same samples, n/4 with sums of two).
-- Assumes nothing.
use mathlib.Core.Path.{◌≡◌}
use mathlib.Core.Logic.{⊎_elim}
use Prim.Native.Nat.{ℕ, zero, suc, ◌+◌, ◌*◌, ◌-◌, ◌/◌, ◌^◌, ◌<◌, ◌≤◌}
use native.Mathlib.Nat.{le_trans, mul-le-mul_left, mul-div-le, le-div_iff_mul-le}
use native.Mathlib.Omega.{arith}
use lib.Dec.{leb, leb→le, lit<, lit≤}
use lib.IntN.{ℤ, nat_abs, ◌+ℤ◌, ◌-ℤ◌, ◌*ℤ◌}
use mir.Syntax.{w64}
use mir.Val.{SFits}
use Rattle.whole.proofs.Cases.{le_or_lt, both, below, below_at}
use Rattle.whole.proofs.Difference.{int, parts, diff}
use Rattle.whole.proofs.Size.{near, ◌within◌, size_within, within_neg, within_le}
use Rattle.whole.proofs.Size.{within_add, within_sub, within_mul, within_fits}
use Rattle.whole.proofs.Words.{Word}
use Rattle.whole.proofs.Operations.{Computes, computes}
use Rattle.circle.specs.Circle as Circle
use Rattle.circle.specs.Circle.{B, K}
use Rattle.circle.proofs.Wave.{K_within}
use Rattle.circle.proofs.Stored.{at_entry}
use Rattle.words.specs.Words.{Samples}
use Rattle.lengths.specs.Block.{top_level, largest_sample, AcceptedBlock, largest_sum}
use Rattle.ffct.specs.Transforms.{cosine_beyond, sine_beyond, cosine_dft, sine_dft, dct, spectrum, pair}
use Rattle.ffct.specs.Limits.{CoefficientsFit, PairFits}
use Rattle.lengths.proofs.Lengths.{len, pow_len, len_pos, per, len_per}
use Rattle.ffct.proofs.Steps.{cosine_low, cosine_high, sine_low, sine_high}
use Rattle.ffct.proofs.Sums.{cos_size, sin_size, dct_size}
use Rattle.ffct.proofs.Rotation.{coefficient_size}
use Rattle.ffct.proofs.Near.{Near, Bounded, dct_error, dft_error, dft_near, dct_near}

-- ---- the errors grow with the samples
dct_grows : (L : ℕ) {X Y e f : ℕ} → X ≤ Y → e ≤ f → dct_error L X e ≤ dct_error L Y f
unfolding dct_error
dct_grows zero h g = omega arith
dct_grows (suc L) h g = omega (arith, mul-le-mul_left (len (suc L)) h)

dft_grows : (L : ℕ) {X Y : ℕ} → X ≤ Y → dft_error L X ≤ dft_error L Y
unfolding dft_error
dft_grows zero h = omega arith
dft_grows (suc zero) h = omega arith
dft_grows (suc (suc L)) {X} {Y} h =
    let e : dft_error L (2 * X) ≤ dft_error L (2 * Y) = dft_grows L (omega arith) in
    omega (arith, dft_grows (suc L) h, dct_grows L {X = 2 * X} {Y = 2 * Y} (omega arith) e)

-- ---- an inner transform: its samples, and the sizes of its coefficients
pub record Inner (L : ℕ) (x : Samples) (X : ℕ) : Type 0 where
  pub level : L ≤ top_level
  pub small : len L * X ≤ largest_sum
  pub bounded : Bounded (len L) x X

-- samples of which each has its share of the largest sum
pub share_inner : {L : ℕ} {x : Samples} → L ≤ top_level → ((n : ℕ) → n < len L → len L * nat_abs (x n) ≤ largest_sum)
    → Inner L x (largest_sum / len L)
share_inner {L} l h = record {
  level = l;
  small = mul-div-le largest_sum (len L);
  bounded = λ n i. size_within _ ((le-div_iff_mul-le (len_pos L)).1 (omega (arith, h n i)));
}

dft_small : (L : ℕ) → L ≤ top_level → dft_error L (largest_sum / len L) ≤ 128 * B
unfolding both below dft_error dct_error
dft_small L h = leb→le _ _ (below_at 11 (λ L. leb (dft_error L (largest_sum / len L)) (128 * B)) tt L (omega arith))

dct_small : (L : ℕ) → L ≤ top_level → dct_error L (largest_sum / len L) (dft_error L (largest_sum / len L)) ≤ 257 * B
unfolding both below dft_error dct_error
dct_small L h =
    leb→le _ _
    (below_at 11 (λ L. leb (dct_error L (largest_sum / len L) (dft_error L (largest_sum / len L))) (257 * B)) tt L (omega arith))

module _ {L : ℕ} {x : Samples} {X : ℕ} (i : Inner L x X) where
  share : X ≤ largest_sum / len L
  share = (le-div_iff_mul-le (len_pos L)).1 (omega (arith, i.small))

  size : (y E : ℤ) (e m : ℕ) → Near y E e → E within len L * (X * B) → e ≤ m * B → y within largest_sum + m
  size y E e m h g l = within_le (coefficient_size B y E (lit< tt) h.gap g) (omega (arith, i.small))

  pub dft_size : (k : ℕ) → 2 * k ≤ len L → ((cosine_dft L x).at k within largest_sum + 128) × ((sine_dft L x).at k within largest_sum + 128)
  dft_size k h =
      let both = dft_near L (per L) x X (len_per L i.level) i.bounded k h in
      let l = le_trans (dft_grows L share) (dft_small L i.level) in (
        size _ _ _ 128 both.0 (cos_size (per L) (len L) x k i.bounded) l,
        size _ _ _ 128 both.1 (sin_size (per L) (len L) x k i.bounded) l,
      )

  pub dct_within : (k : ℕ) → k < len L → (dct L x).at k within largest_sum + 257
  dct_within k h =
      size _ _ _ 257 (dct_near L (per L) x X (len_per L i.level) i.bounded k h) (dct_size (per L) (len L) x k i.bounded)
      (le_trans (dct_grows L share (dft_grows L share)) (dct_small L i.level))

-- ---- the sums of two coefficients, on words
module _ {p q : ℕ} {x y : ℤ} (a : Word w64 p x) (b : Word w64 q y) (h : nat_abs x ≤ 2 * largest_sum) (l : nat_abs y ≤ 2 * largest_sum) where
  pub added : Computes ◌+ℤ◌ p q x y
  added = computes ◌+ℤ◌ a b (within_fits (within_add (size_within x h) (size_within y l)) (lit< tt))

  pub subtracted : Computes ◌-ℤ◌ p q x y
  subtracted = computes ◌-ℤ◌ a b (within_fits (within_sub (size_within x h) (size_within y l)) (lit< tt))

-- ---- the rotation
pub entry_within : (j : ℕ) → j ≤ 1024 → Circle.T j within 2 ^ 30
unfolding int
entry_within j h = coefficient_size (2 ^ 50) (Circle.T j) (K j) (lit< tt) (size_within _ (at_entry j h).near) (K_within j)

-- (20) is (19), exactly
module _ (C S c s : ℤ) where
  pub first_form : (C +ℤ S) *ℤ c -ℤ S *ℤ (c +ℤ s) ≡ c *ℤ C -ℤ s *ℤ S
  first_form = rw (parts C, parts S, parts c, parts s) (simp diff (omega near))

  pub second_form : (C +ℤ S) *ℤ c +ℤ C *ℤ (s -ℤ c) ≡ s *ℤ C +ℤ c *ℤ S
  second_form = rw (parts C, parts S, parts c, parts s) (simp diff (omega near))

-- each product and sum of (20) fits a signed 64-bit word
pub record RotationFits (C S c s : ℤ) : Type 0 where
  pub sum : SFits w64 (C +ℤ S)
  pub entries : SFits w64 (c +ℤ s)
  pub difference : SFits w64 (s -ℤ c)
  pub m1 : (C +ℤ S) *ℤ c within 2 ^ 61
  pub m2 : S *ℤ (c +ℤ s) within 2 ^ 61
  pub m3 : C *ℤ (s -ℤ c) within 2 ^ 61

pub rotation_fits : {C S c s : ℤ} → C within largest_sum + 128 → S within largest_sum + 128 → c within 2 ^ 30 → s within 2 ^ 30
    → RotationFits C S c s
rotation_fits hC hS hc hs =
    let sum = within_add hC hS in
    let entries = within_add hc hs in
    let difference = within_sub hs hc in
    record {
      sum = within_fits sum (lit< tt);
      entries = within_fits entries (lit< tt);
      difference = within_fits difference (lit< tt);
      m1 = within_le (within_mul sum hc) (lit≤ tt);
      m2 = within_le (within_mul hS entries) (lit≤ tt);
      m3 = within_le (within_mul hC difference) (lit≤ tt);
    }

-- ---- the coefficients of an accepted block fit a signed 32-bit word
pub accepted_inner : {L : ℕ} {x : Samples} → AcceptedBlock L x → Inner L x largest_sample
unfolding both below
accepted_inner {L} {x} a = record {
  level = a.level_ok;
  small = leb→le _ _ (below_at 11 (λ L. leb (len L * largest_sample) largest_sum) tt L (omega (arith, a.level_ok)));
  bounded = λ i h. size_within (x i) (a.range i (omega (arith, pow_len L)));
}

pub coefficients_fit : (L : ℕ) (x : Samples) → AcceptedBlock L x → CoefficientsFit L x
coefficients_fit L x a = record {
  cosine = λ k h. within_fits (dft_size inner k (omega (arith, pow_len L))).0 (lit< tt);
  sine = λ k h. within_fits (dft_size inner k (omega (arith, pow_len L))).1 (lit< tt);
  dct = λ k h. within_fits (dct_within inner k (omega (arith, pow_len L))) (lit< tt);
}
  where
    inner : Inner L x largest_sample
    inner = accepted_inner a

-- Pair's parts, each a sum of two coefficients
pub pair_fits : (L : ℕ) (a b : Samples) → AcceptedBlock L a → AcceptedBlock L b → PairFits L a b
unfolding pair spectrum
pair_fits L a b okA okB = record {
  real = λ k h. within_fits (within_add (cosine_part (accepted_inner okA) k h) (sine_part (accepted_inner okB) k h)) (lit< tt);
  imaginary = λ k h. within_fits (within_sub (cosine_part (accepted_inner okB) k h) (sine_part (accepted_inner okA) k h)) (lit< tt);
}
  where
    cosine_part : {x : Samples} → Inner L x largest_sample → (k : ℕ) → k < 2 ^ L
        → cosine_beyond (2 ^ L) (cosine_dft L x).at k within largest_sum + 128
    cosine_part {x} i k h = ⊎_elim
        (λ l. rw (cosine_low (2 ^ L) (cosine_dft L x).at k l) (dft_size i k (omega (arith, pow_len L))).0)
        (λ l. rw (cosine_high (2 ^ L) (cosine_dft L x).at k l) (dft_size i (2 ^ L - k) (omega (arith, pow_len L))).0)
        (le_or_lt k (2 ^ L / 2))

    sine_part : {x : Samples} → Inner L x largest_sample → (k : ℕ) → k < 2 ^ L
        → sine_beyond (2 ^ L) (sine_dft L x).at k within largest_sum + 128
    sine_part {x} i k h = ⊎_elim
        (λ l. rw (sine_low (2 ^ L) (sine_dft L x).at k l) (dft_size i k (omega (arith, pow_len L))).1)
        (λ l. rw (sine_high (2 ^ L) (sine_dft L x).at k l) (within_neg (dft_size i (2 ^ L - k) (omega (arith, pow_len L))).1))
        (le_or_lt k (2 ^ L / 2))
