-- A transform of level L reads the first 2 ^ L samples and no others; the sine-DFT is zero at k = 0 and k = N/2; a step reads only the
-- coefficients in range.
-- Assumes nothing.
use mathlib.Core.Path.{◌≡◌, refl, sym, ◌∙◌, ap, ap₂}
use mathlib.Core.Logic.{◌⊎◌, inl, inr, ⊎_elim}
use mathlib.Core.Bool.{cond}
use Prim.Native.Nat.{ℕ, zero, suc, ◌+◌, ◌*◌, ◌-◌, ◌/◌, ◌^◌, ◌<◌, ◌≤◌, max}
use native.Mathlib.Omega.{arith}
use lib.Dec.{eqb}
use lib.IntN.{ℤ, pos, neg_ℤ, ◌+ℤ◌, ◌-ℤ◌, ◌*ℤ◌}
use Rattle.whole.proofs.Cases.{le_or_lt}
use Rattle.whole.proofs.Largest.{largest_same}
use Rattle.whole.specs.Round.{round, rest_size}
use Rattle.circle.specs.Circle.{T}
use Rattle.words.specs.Words.{Samples}
use Rattle.ffct.specs.Transforms.{evens, folded_sums, folded_differences, alternate, rearranged}
use Rattle.ffct.specs.Transforms.{cosine_beyond, sine_beyond, dct_beyond, apart, unrounded, rotated, rotation_rest}
use Rattle.ffct.specs.Transforms.{dct_by, cosine_dft, sine_dft, dct, spectrum, pair}
use Rattle.lengths.proofs.Lengths.{len, pow_len, len_pos}
use Rattle.ffct.proofs.Steps.{sine_step, cosine_low, cosine_high, sine_low, sine_high, dct_low, dct_middle, dct_high}
use Rattle.ffct.proofs.Steps.{rearranged_source, rotated_zero, rotated_some, unrounded_low, unrounded_middle, unrounded_high}

-- two blocks of level L are the same
abbrev pub Same : ℕ → Samples → Samples → Type 0
Same L x y = (i : ℕ) → i < len L → x i ≡ y i

pub rearranged_same : (m : ℕ) (x y : Samples) → ((i : ℕ) → i < 2 * m → x i ≡ y i)
    → (i : ℕ) → i < 2 * m → rearranged (2 * m) x i ≡ rearranged (2 * m) y i
rearranged_same m x y e i h =
    let s = rearranged_source m i h in
    s.2 x ∙ e s.0 s.1 ∙ sym (s.2 y)

abbrev DftSame : ℕ → Type 0
DftSame L = (x y : Samples) → Same L x y → (cosine_dft L x ≡ cosine_dft L y) × (sine_dft L x ≡ sine_dft L y)

dct_same_of : (L : ℕ) → DftSame L → (x y : Samples) → Same L x y → dct L x ≡ dct L y
unfolding dct dct_by
dct_same_of zero H x y e = ap (λ z. record { at = λ k. z; products = 0; sums = 0; largest_rest = 0 }) (e 0 (omega arith))
dct_same_of (suc L) H x y e =
    let N = 2 ^ suc L in
    let moved = H (rearranged N x) (rearranged N y) (rw (pow_len (suc L)) (rearranged_same (len L) x y e)) in
    ap₂ (λ C S. record {
      at = rotated N C.at S.at;
      products = C.products + S.products + (3 * (N / 2 - 1) + 1);
      sums = C.sums + S.sums + 3 * (N / 2 - 1);
      largest_rest = max (max C.largest_rest S.largest_rest) (rotation_rest N C.at S.at);
    }) moved.0 moved.1

pub dft_same : (L : ℕ) → DftSame L
unfolding cosine_dft dct
dft_same zero x y e = (ap (λ z. record { at = λ k. z; products = 0; sums = 0; largest_rest = 0 }) (e 0 (omega arith)), refl)
dft_same (suc zero) x y e = (
  ap₂ (λ u v. record { at = λ k. cond (eqb k 0) (u +ℤ v) (u -ℤ v); products = 0; sums = 2; largest_rest = 0 })
      (e 0 (omega arith)) (e 1 (omega arith)),
  refl,
)
dft_same (suc (suc L)) x y e =
    let N = 2 ^ suc (suc L) in (
      ap₂ (λ even odd. record {
        at = λ k. cosine_beyond (N / 2) even.at k +ℤ dct_beyond (N / 4) odd.at k;
        products = even.products + odd.products;
        sums = even.sums + odd.sums + (N / 4 + N / 2);
        largest_rest = max even.largest_rest odd.largest_rest;
      }) (dft_same (suc L) (evens x) (evens y) even_same).0 (dct_same_of L (dft_same L) (folded_sums N x) (folded_sums N y) sum_same),
      ap₂ (λ even odd. record {
        at = λ k. sine_beyond (N / 2) even.at k +ℤ dct_beyond (N / 4) odd.at (apart (N / 4) k);
        products = even.products + odd.products;
        sums = even.sums + odd.sums + (N / 4 + (N / 2 - 2));
        largest_rest = max even.largest_rest odd.largest_rest;
      })
          (dft_same (suc L) (evens x) (evens y) even_same).1
          (dct_same_of L (dft_same L) (folded_differences N x) (folded_differences N y) difference_same),
    )
  where
    even_same : Same (suc L) (evens x) (evens y)
    even_same i h = e (2 * i) (omega arith)

    mirror_same : (i : ℕ) → i < len L → x (2 ^ suc (suc L) - 2 * i - 1) ≡ y (2 ^ suc (suc L) - 2 * i - 1)
    mirror_same i h = e (2 ^ suc (suc L) - 2 * i - 1) (omega (arith, pow_len (suc (suc L))))

    sum_same : Same L (folded_sums (2 ^ suc (suc L)) x) (folded_sums (2 ^ suc (suc L)) y)
    sum_same i h = ap₂ ◌+ℤ◌ (e (2 * i + 1) (omega arith)) (mirror_same i h)

    difference_same : Same L (folded_differences (2 ^ suc (suc L)) x) (folded_differences (2 ^ suc (suc L)) y)
    difference_same i h = ap (alternate _) (ap₂ ◌-ℤ◌ (e (2 * i + 1) (omega arith)) (mirror_same i h))

pub dct_same : (L : ℕ) (x y : Samples) → Same L x y → dct L x ≡ dct L y
dct_same L = dct_same_of L (dft_same L)

pub spectrum_same : (L : ℕ) (x y : Samples) → Same L x y → spectrum L x ≡ spectrum L y
unfolding spectrum
spectrum_same L x y e = rw ((dft_same L x y e).0, (dft_same L x y e).1) refl

pub pair_same : (L : ℕ) (x x' y y' : Samples) → Same L x x' → Same L y y' → pair L x y ≡ pair L x' y'
unfolding pair
pair_same L x x' y y' e d = rw (spectrum_same L x x' e, spectrum_same L y y' d) refl

-- ---- where the sine-DFT is zero for every block
apart_ends : (m k : ℕ) → (k ≡ 0) ⊎ (k ≡ 2 * m) → apart m k ≡ m
unfolding apart
apart_ends m k c = ⊎_elim (λ e. omega arith) (λ e. omega arith) c

pub sine_first : (L : ℕ) (x : Samples) → (sine_dft L x).at 0 ≡ pos 0
sine_first zero x = unfold sine_dft in refl
sine_first (suc zero) x = unfold sine_dft in refl
sine_first (suc (suc L)) x =
    sine_step L x 0
    ∙ ap₂ ◌+ℤ◌
    (sine_low (2 * len L) (sine_dft (suc L) (evens x)).at 0 (omega arith) ∙ sine_first (suc L) (evens x))
    (dct_middle (len L) _ (apart (len L) 0) (apart_ends (len L) 0 (inl refl)))

pub sine_last : (L : ℕ) (x : Samples) (k : ℕ) → 2 * k ≡ len L → (sine_dft L x).at k ≡ pos 0
sine_last zero x k h = unfold sine_dft in refl
sine_last (suc zero) x k h = unfold sine_dft in refl
sine_last (suc (suc L)) x k h =
    sine_step L x k
    ∙ ap₂ ◌+ℤ◌
    (sine_high (2 * len L) _ k (omega (arith, len_pos L))
    ∙ ap neg_ℤ (ap (sine_dft (suc L) (evens x)).at {x = 2 * len L - k} {y = 0} (omega arith) ∙ sine_first (suc L) (evens x)))
    (dct_middle (len L) _ (apart (len L) k) (apart_ends (len L) k (inr (omega arith))))

-- ---- a coefficient out of range is read from those in range
module _ (N : ℕ) (f g : ℕ → ℤ) (k : ℕ) (h : k ≤ N) (e : (j : ℕ) → j ≤ N / 2 → f j ≡ g j) where
  pub cosine_beyond_same : cosine_beyond N f k ≡ cosine_beyond N g k
  cosine_beyond_same = ⊎_elim
      (λ l. cosine_low N f k l ∙ e k l ∙ sym (cosine_low N g k l))
      (λ l. cosine_high N f k l ∙ e _ (omega arith) ∙ sym (cosine_high N g k l))
      (le_or_lt k (N / 2))

  pub sine_beyond_same : sine_beyond N f k ≡ sine_beyond N g k
  sine_beyond_same = ⊎_elim
      (λ l. sine_low N f k l ∙ e k l ∙ sym (sine_low N g k l))
      (λ l. sine_high N f k l ∙ ap neg_ℤ (e _ (omega arith)) ∙ sym (sine_high N g k l))
      (le_or_lt k (N / 2))

module _ (m : ℕ) (f g : ℕ → ℤ) (k : ℕ) (h : k ≤ 2 * m) where
  pub dct_beyond_same : ((j : ℕ) → j < m → f j ≡ g j) → dct_beyond m f k ≡ dct_beyond m g k
  dct_beyond_same e = ⊎_elim
      (λ l. ⊎_elim
      (λ l₂. dct_middle m f k (omega arith) ∙ sym (dct_middle m g k (omega arith)))
      (λ l₂. dct_low m f k l₂ ∙ e k l₂ ∙ sym (dct_low m g k l₂))
      (le_or_lt m k))
      (λ l. dct_high m f k l ∙ ap neg_ℤ (e _ (omega arith)) ∙ sym (dct_high m g k l))
      (le_or_lt k m)

-- and a rotated one from those of both DFTs, value and rest
module _ (m w : ℕ) (C C' S S' : ℕ → ℤ) (q : 2 * m * w ≡ 1024) (e : (j : ℕ) → j ≤ m → C j ≡ C' j) (d : (j : ℕ) → j ≤ m → S j ≡ S' j) where
  unrounded_same : (k : ℕ) → k < 2 * m → unrounded (2 * m) C S k ≡ unrounded (2 * m) C' S' k
  unrounded_same k h = ⊎_elim (λ l. ⊎_elim (λ g. middle (omega arith)) low (le_or_lt m k)) high (le_or_lt k m)
    where
      low : k < m → unrounded (2 * m) C S k ≡ unrounded (2 * m) C' S' k
      low l =
          unrounded_low m w C S q k l
          ∙ ap₂ (λ u v. T (k * w) *ℤ u -ℤ T (1024 - k * w) *ℤ v) (e k (omega arith)) (d k (omega arith))
          ∙ sym (unrounded_low m w C' S' q k l)

      middle : k ≡ m → unrounded (2 * m) C S k ≡ unrounded (2 * m) C' S' k
      middle l =
          unrounded_middle m w C S q k l ∙ ap (λ u. T 512 *ℤ u) (e m (omega arith)) ∙ sym (unrounded_middle m w C' S' q k l)

      high : m < k → unrounded (2 * m) C S k ≡ unrounded (2 * m) C' S' k
      high l =
          unrounded_high m w C S q k l
          ∙ ap₂ (λ u v. T (1024 - (2 * m - k) * w) *ℤ u +ℤ T ((2 * m - k) * w) *ℤ v) (e _ (omega arith)) (d _ (omega arith))
          ∙ sym (unrounded_high m w C' S' q k l)

  pub rotated_same : (k : ℕ) → k < 2 * m → rotated (2 * m) C S k ≡ rotated (2 * m) C' S' k
  rotated_same k h = ⊎_elim
      (λ l. rotated_zero (2 * m) C S k (omega arith) ∙ e 0 (omega arith) ∙ sym (rotated_zero (2 * m) C' S' k (omega arith)))
      (λ l. rotated_some (2 * m) C S k l ∙ ap round (unrounded_same k h) ∙ sym (rotated_some (2 * m) C' S' k l))
      (le_or_lt k 0)

  pub rotation_rest_same : rotation_rest (2 * m) C S ≡ rotation_rest (2 * m) C' S'
  unfolding rotation_rest
  rotation_rest_same = largest_same (2 * m - 1) _ _ (λ i h. ap rest_size (unrounded_same (i + 1) (omega arith)))
