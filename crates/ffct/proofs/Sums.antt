-- The exact sums of a length n with n w = 1024, so that every place is a product of natural numbers; how they split by (12), (15) and (16),
-- exactly, and their values out of range by (6) to (10).
-- Assumes nothing.
use mathlib.Core.Path.{◌≡◌, ◌∙◌, ap, ap₂, subst}
use Prim.Native.Nat.{ℕ, ◌+◌, ◌*◌, ◌/◌, ◌<◌}
use native.Mathlib.Omega.{arith}
use lib.IntN.{ℤ, neg_ℤ, ◌+ℤ◌, ◌-ℤ◌, ◌*ℤ◌}
use Rattle.whole.specs.Sum.{sum}
use Rattle.whole.proofs.Difference.{int, parts, diff, ⊖-same}
use Rattle.whole.proofs.Ring.{*ℤ-negℤ}
use Rattle.whole.proofs.Size.{near, ◌within◌, within_mul}
use Rattle.whole.proofs.Sums.{sum_cong, sum_add, sum_sub, sum_neg, sum_within}
use Rattle.circle.specs.Circle.{B, K, sine_at}
use Rattle.circle.proofs.Places.{mirror, opposite}
use Rattle.circle.proofs.Wave.{K_within}
use Rattle.words.specs.Words.{Samples}
use Rattle.ffct.specs.Exact.{exact_cosine, exact_sine, exact_dct, exact_real, exact_imaginary}
use Rattle.lengths.proofs.Lengths.{quotient}

unfoldable pub cos_sum : ℕ → ℕ → Samples → ℕ → ℤ
cos_sum w n x k = sum n (λ i. x i *ℤ K (4 * w * i * k))

unfoldable pub sin_sum : ℕ → ℕ → Samples → ℕ → ℤ
sin_sum w n x k = sum n (λ i. x i *ℤ sine_at (4 * w * i * k))

unfoldable pub dct_sum : ℕ → ℕ → Samples → ℕ → ℤ
dct_sum w n x k = sum n (λ i. x i *ℤ K ((2 * i + 1) * k * w))

-- ---- they are the exact sums of document 01
pub dct_place : (w n j : ℕ) → n * w ≡ 1024 → j * 1024 / n ≡ j * w
dct_place w n j q = quotient n w (j * w) (j * 1024) q (omega (arith, ap (λ t. t * j) q))

module _ (w n : ℕ) (x : Samples) (k : ℕ) (q : n * w ≡ 1024) where
  place : (i : ℕ) → i * k * 4096 / n ≡ 4 * w * i * k
  place i = quotient n w (4 * w * i * k) (i * k * 4096) q (omega (arith, ap (λ t. 4 * t * (i * k)) q))

  pub cos_exact : exact_cosine n x k ≡ cos_sum w n x k
  unfolding exact_cosine cos_sum
  cos_exact = sum_cong n _ _ (λ i h. ap (λ p. x i *ℤ K p) (place i))

  pub sin_exact : exact_sine n x k ≡ sin_sum w n x k
  unfolding exact_sine sin_sum
  sin_exact = sum_cong n _ _ (λ i h. ap (λ p. x i *ℤ sine_at p) (place i))

  pub dct_exact : exact_dct n x k ≡ dct_sum w n x k
  unfolding exact_dct dct_sum
  dct_exact = sum_cong n _ _ (λ i h. ap (λ p. x i *ℤ K p) (dct_place w n ((2 * i + 1) * k) q))

-- Pair's exact sums, from those of its recordings
module _ (w n : ℕ) (a b : Samples) (k : ℕ) (q : n * w ≡ 1024) where
  pub real_exact : exact_real n a b k ≡ cos_sum w n a k +ℤ sin_sum w n b k
  unfolding exact_real exact_cosine exact_sine
  real_exact = sum_add n _ _ ∙ ap₂ ◌+ℤ◌ (cos_exact w n a k q) (sin_exact w n b k q)

  pub imaginary_exact : exact_imaginary n a b k ≡ cos_sum w n b k -ℤ sin_sum w n a k
  unfolding exact_imaginary exact_cosine exact_sine
  imaginary_exact = sum_sub n _ _ ∙ ap₂ ◌-ℤ◌ (cos_exact w n b k q) (sin_exact w n a k q)

-- ---- their sizes
module _ (w n : ℕ) (x : Samples) (k : ℕ) {X : ℕ} (b : (i : ℕ) → i < n → x i within X) where
  pub cos_size : cos_sum w n x k within n * (X * B)
  unfolding cos_sum
  cos_size = sum_within n _ (λ i h. within_mul (b i h) (K_within _))

  pub sin_size : sin_sum w n x k within n * (X * B)
  unfolding sin_sum
  sin_size = sum_within n _ (λ i h. within_mul (b i h) (K_within _))

  pub dct_size : dct_sum w n x k within n * (X * B)
  unfolding dct_sum
  dct_size = sum_within n _ (λ i h. within_mul (b i h) (K_within _))

-- ---- out of range: (9), (10), (8), (6), and where a sine-DFT is zero
pub self_negated : (z : ℤ) → z ≡ neg_ℤ z → z ≡ int 0
self_negated z e =
    let e' = ⊖-same _ _ _ _ (simp diff at (subst (λ t. t ≡ neg_ℤ t) (parts z) e)) in
    rw (parts z) (simp diff (omega near))

module _ (w n : ℕ) (x : Samples) (q : n * w ≡ 1024) where
  negated : (k l : ℕ) (place : ℕ → ℕ → ℕ) → ((i : ℕ) → K (place i k) ≡ neg_ℤ (K (place i l))) →
      sum n (λ i. x i *ℤ K (place i k)) ≡ neg_ℤ (sum n (λ i. x i *ℤ K (place i l)))
  negated k l place h =
      sum_cong n _ (λ i. neg_ℤ (x i *ℤ K (place i l))) (λ i b. ap (λ z. x i *ℤ z) (h i) ∙ *ℤ-negℤ (x i) (K (place i l)))
      ∙ sum_neg n (λ i. x i *ℤ K (place i l))

  pub cos_mirror : (k l : ℕ) → k + l ≡ n → cos_sum w n x k ≡ cos_sum w n x l
  unfolding cos_sum
  cos_mirror k l h =
      sum_cong n _ _ (λ i b. ap (λ z. x i *ℤ z) (mirror _ _ i (omega (arith, ap (λ t. 4 * w * i * t) h, ap (λ t. 4 * t * i) q))))

  pub sin_mirror : (k l : ℕ) → k + l ≡ n → sin_sum w n x k ≡ neg_ℤ (sin_sum w n x l)
  unfolding sin_sum
  sin_mirror k l h =
      negated k l (λ i k. 4 * w * i * k + 3072)
      (λ i. opposite _ _ (i + 1) (omega (arith, ap (λ t. 4 * w * i * t) h, ap (λ t. 4 * t * i) q)))

  pub dct_mirror : (k l : ℕ) → k + l ≡ 2 * n → dct_sum w n x k ≡ neg_ℤ (dct_sum w n x l)
  unfolding dct_sum
  dct_mirror k l h =
      negated k l (λ i k. (2 * i + 1) * k * w)
      (λ i. opposite _ _ i (omega (arith, ap (λ t. (2 * i + 1) * w * t) h, ap (λ t. 2 * t * (2 * i + 1)) q)))

  pub sin_middle : (k : ℕ) → 2 * k ≡ n → sin_sum w n x k ≡ int 0
  sin_middle k h = self_negated _ (sin_mirror k k (omega arith))

  pub dct_end : dct_sum w n x n ≡ int 0
  dct_end = self_negated _ (dct_mirror n n (omega arith))
