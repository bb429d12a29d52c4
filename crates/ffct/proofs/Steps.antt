-- The definitions of specs/Transforms taken apart, case by case, with lengths written 2 m and 4 m.
-- Assumes nothing.
use mathlib.Core.Path.{◌≡◌, refl, ◌∙◌, ap}
use mathlib.Core.Logic.{⊎_elim}
use Prim.Native.Nat.{ℕ, suc, ◌+◌, ◌*◌, ◌-◌, ◌/◌, ◌^◌, ◌≤◌, ◌<◌, max}
use native.Mathlib.Omega.{arith}
use lib.IntN.{ℤ, pos, neg_ℤ, ◌+ℤ◌, ◌-ℤ◌, ◌*ℤ◌}
use borrow.Author.Tests.{lt-ltb, le-ltb, le-leb, lt-leb, eq-eqb, ne_eqb}
use Rattle.whole.proofs.Cases.{le_or_lt}
use Rattle.whole.specs.Round.{round}
use Rattle.circle.specs.Circle.{T}
use Rattle.words.specs.Words.{Samples}
use Rattle.ffct.specs.Transforms.{Transform, evens, folded_sums, folded_differences, rearranged}
use Rattle.ffct.specs.Transforms.{cosine_beyond, sine_beyond, dct_beyond, apart, unrounded, rotated, rotation_rest}
use Rattle.ffct.specs.Transforms.{dct_by, cosine_dft, sine_dft, dct}
use Rattle.lengths.proofs.Lengths.{len, pow_len, quotient}

-- ---- coefficients out of range
module _ (N : ℕ) (f : ℕ → ℤ) (k : ℕ) where
  pub cosine_low : k ≤ N / 2 → cosine_beyond N f k ≡ f k
  unfolding cosine_beyond
  cosine_low h = rw (le-leb k (N / 2) h)

  pub cosine_high : N / 2 < k → cosine_beyond N f k ≡ f (N - k)
  unfolding cosine_beyond
  cosine_high h = rw (lt-leb k (N / 2) h)

  pub sine_low : k ≤ N / 2 → sine_beyond N f k ≡ f k
  unfolding sine_beyond
  sine_low h = rw (le-leb k (N / 2) h)

  pub sine_high : N / 2 < k → sine_beyond N f k ≡ neg_ℤ (f (N - k))
  unfolding sine_beyond
  sine_high h = rw (lt-leb k (N / 2) h)

  pub dct_low : k < N → dct_beyond N f k ≡ f k
  unfolding dct_beyond
  dct_low h = rw (lt-ltb k N h)

  pub dct_middle : k ≡ N → dct_beyond N f k ≡ pos 0
  unfolding dct_beyond
  dct_middle h = rw (le-ltb k N (omega arith), eq-eqb k N h)

  pub dct_high : N < k → dct_beyond N f k ≡ neg_ℤ (f (2 * N - k))
  unfolding dct_beyond
  dct_high h = rw (le-ltb k N (omega arith), ne_eqb k N (λ e. omega arith))

-- ---- the samples in the order of (16)
module _ (m : ℕ) (x : Samples) (i : ℕ) (h : i < m) where
  pub rearranged_near : rearranged (2 * m) x i ≡ x (2 * i)
  unfolding rearranged
  rearranged_near = rw (lt-ltb i (2 * m / 2) (omega arith))

  pub rearranged_far : rearranged (2 * m) x (2 * m - 1 - i) ≡ x (2 * i + 1)
  unfolding rearranged
  rearranged_far =
      rw (le-ltb (2 * m - 1 - i) (2 * m / 2) (omega arith)) (ap x {x = 2 * (2 * m - (2 * m - 1 - i) - 1) + 1} {y = 2 * i + 1} (omega arith))

-- each of them is one of the samples, whatever these are
pub rearranged_source : (m i : ℕ) → i < 2 * m → (j : ℕ) × (j < 2 * m) × ((x : Samples) → rearranged (2 * m) x i ≡ x j)
rearranged_source m i h = ⊎_elim
    (λ l.
    let j = 2 * m - 1 - i in
    (2 * j + 1, omega arith, λ x. ap (rearranged (2 * m) x) {x = i} {y = 2 * m - 1 - j} (omega arith) ∙ rearranged_far m x j (omega arith)))
    (λ l. (2 * i, omega arith, λ x. rearranged_near m x i l))
    (le_or_lt m i)

-- ---- the rotation, with 2 m w = 1024
module _ (m w : ℕ) (C S : ℕ → ℤ) (q : 2 * m * w ≡ 1024) (k : ℕ) where
  -- the place 1024 k / N
  place : (j : ℕ) → 1024 * j / (2 * m) ≡ j * w
  place j = quotient (2 * m) w (j * w) (1024 * j) q (omega (arith, ap (λ n. n * j) q))

  pub unrounded_low : k < m → unrounded (2 * m) C S k ≡ T (k * w) *ℤ C k -ℤ T (1024 - k * w) *ℤ S k
  unfolding unrounded
  unrounded_low h = rw (lt-ltb k (2 * m / 2) (omega arith), place k)

  pub unrounded_middle : k ≡ m → unrounded (2 * m) C S k ≡ T 512 *ℤ C m
  unfolding unrounded
  unrounded_middle h =
      rw (le-ltb k (2 * m / 2) (omega arith), eq-eqb k (2 * m / 2) (omega arith))
      (ap (λ j. T 512 *ℤ C j) {x = 2 * m / 2} {y = m} (omega arith))

  pub unrounded_high : m < k →
      unrounded (2 * m) C S k ≡ T (1024 - (2 * m - k) * w) *ℤ C (2 * m - k) +ℤ T ((2 * m - k) * w) *ℤ S (2 * m - k)
  unfolding unrounded
  unrounded_high h = rw (le-ltb k (2 * m / 2) (omega arith), ne_eqb k (2 * m / 2) (λ e. omega arith), place (2 * m - k))

module _ (N : ℕ) (C S : ℕ → ℤ) (k : ℕ) where
  pub rotated_zero : k ≡ 0 → rotated N C S k ≡ C 0
  unfolding rotated
  rotated_zero h = rw (eq-eqb k 0 h)

  pub rotated_some : 0 < k → rotated N C S k ≡ round (unrounded N C S k)
  unfolding rotated
  rotated_some h = rw (ne_eqb k 0 (λ e. omega arith))

-- ---- the transforms
four : (L : ℕ) → 2 ^ suc (suc L) ≡ 4 * len L
four L = pow_len (suc (suc L)) ∙ omega arith

half : (m : ℕ) → 4 * m / 2 ≡ 2 * m
half m = omega arith

fourth : (m : ℕ) → 4 * m / 4 ≡ m
fourth m = omega arith

module _ (L : ℕ) (x : Samples) (k : ℕ) where
  pub cosine_step : (cosine_dft (suc (suc L)) x).at k
      ≡ cosine_beyond (2 * len L) (cosine_dft (suc L) (evens x)).at k +ℤ dct_beyond (len L) (dct L (folded_sums (4 * len L) x)).at k
  unfolding cosine_dft dct
  cosine_step = rw (four L, half (len L), fourth (len L))

  pub sine_step : (sine_dft (suc (suc L)) x).at k
      ≡ sine_beyond (2 * len L) (sine_dft (suc L) (evens x)).at k
      +ℤ dct_beyond (len L) (dct L (folded_differences (4 * len L) x)).at (apart (len L) k)
  unfolding sine_dft dct
  sine_step = rw (four L, half (len L), fourth (len L))

  pub dct_step : (dct (suc L) x).at k
      ≡ rotated (2 * len L) (cosine_dft (suc L) (rearranged (2 * len L) x)).at (sine_dft (suc L) (rearranged (2 * len L) x)).at k
  unfolding dct dct_by
  dct_step = rw (pow_len (suc L))

  pub dct_one : (dct 0 x).at k ≡ x 0
  unfolding dct dct_by
  dct_one = refl

-- ---- the counts and the largest rests of the steps
module _ (L : ℕ) (x : Samples) where
  abbrev cosine_even : Transform
  cosine_even = cosine_dft (suc L) (evens x)

  abbrev cosine_odd : Transform
  cosine_odd = dct L (folded_sums (4 * len L) x)

  abbrev sine_even : Transform
  sine_even = sine_dft (suc L) (evens x)

  abbrev sine_odd : Transform
  sine_odd = dct L (folded_differences (4 * len L) x)

  pub cosine_products : (cosine_dft (suc (suc L)) x).products ≡ cosine_even.products + cosine_odd.products
  unfolding cosine_dft dct
  cosine_products = rw (four L)

  pub cosine_sums : (cosine_dft (suc (suc L)) x).sums ≡ cosine_even.sums + cosine_odd.sums + (len L + 2 * len L)
  unfolding cosine_dft dct
  cosine_sums = rw (four L, half (len L), fourth (len L))

  pub cosine_rest : (cosine_dft (suc (suc L)) x).largest_rest ≡ max cosine_even.largest_rest cosine_odd.largest_rest
  unfolding cosine_dft dct
  cosine_rest = rw (four L)

  pub sine_products : (sine_dft (suc (suc L)) x).products ≡ sine_even.products + sine_odd.products
  unfolding sine_dft dct
  sine_products = rw (four L)

  pub sine_sums : (sine_dft (suc (suc L)) x).sums ≡ sine_even.sums + sine_odd.sums + (len L + (2 * len L - 2))
  unfolding sine_dft dct
  sine_sums = rw (four L, half (len L), fourth (len L))

  pub sine_rest : (sine_dft (suc (suc L)) x).largest_rest ≡ max sine_even.largest_rest sine_odd.largest_rest
  unfolding sine_dft dct
  sine_rest = rw (four L)

  abbrev moved : Samples
  moved = rearranged (2 * len L) x

  pub dct_products : (dct (suc L) x).products ≡ (cosine_dft (suc L) moved).products + (sine_dft (suc L) moved).products
      + (3 * (len L - 1) + 1)
  unfolding dct dct_by
  dct_products = rw (pow_len (suc L)) (omega arith)

  pub dct_sums : (dct (suc L) x).sums ≡ (cosine_dft (suc L) moved).sums + (sine_dft (suc L) moved).sums + 3 * (len L - 1)
  unfolding dct dct_by
  dct_sums = rw (pow_len (suc L)) (omega arith)

  pub dct_rest : (dct (suc L) x).largest_rest
      ≡ max (max (cosine_dft (suc L) moved).largest_rest (sine_dft (suc L) moved).largest_rest)
      (rotation_rest (2 * len L) (cosine_dft (suc L) moved).at (sine_dft (suc L) moved).at)
  unfolding dct dct_by
  dct_rest = rw (pow_len (suc L))
