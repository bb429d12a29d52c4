-- How near the transforms are to the exact sums: one induction for all lengths and for cosine-DFT, sine-DFT and DCT together.
-- Assumes nothing.
use mathlib.Core.Path.{◌≡◌, refl, ◌∙◌, ap, subst}
use mathlib.Core.Logic.{⊎_elim}
use Prim.Native.Nat.{ℕ, zero, suc, ◌+◌, ◌*◌, ◌-◌, ◌/◌, ◌^◌, ◌<◌, ◌≤◌}
use native.Mathlib.Nat.{mul-le-mul_right}
use native.Mathlib.Omega.{arith}
use lib.Dec.{lit<}
use lib.IntN.{ℤ, pos, neg_ℤ, ◌+ℤ◌, ◌-ℤ◌, ◌*ℤ◌, +ℤ_idl, *ℤ-zero}
use Rattle.whole.specs.Round.{round}
use Rattle.whole.specs.Sum.{sum}
use Rattle.whole.proofs.Cases.{le_or_lt}
use Rattle.whole.proofs.Difference.{int, parts, diff}
use Rattle.whole.proofs.Ring.{expand}
use Rattle.whole.proofs.Size.{near, ◌within◌, size_within, within_eq, within_neg, within_le, within_add, within_sub}
use Rattle.whole.proofs.Rounding.{round_near}
use Rattle.whole.proofs.Sums.{sum_cong, sum_zero}
use Rattle.circle.specs.Circle.{B, K, T, sine_at}
use Rattle.circle.specs.Laws.{addition_error}
use Rattle.circle.proofs.Places.{mirror, opposite, K_zero}
use Rattle.circle.proofs.Wave.{K_start, K_within}
use Rattle.circle.proofs.Stored.{at_entry}
use Rattle.words.specs.Words.{Samples}
use Rattle.ffct.specs.Transforms.{evens, folded_sums, folded_differences, alternate, rearranged}
use Rattle.ffct.specs.Transforms.{cosine_beyond, sine_beyond, dct_beyond, apart, rotated, cosine_dft, sine_dft, dct}
use Rattle.lengths.proofs.Lengths.{len}
use Rattle.ffct.proofs.Steps.{cosine_low, cosine_high, sine_low, sine_high, dct_low, dct_middle, dct_high, rearranged_source}
use Rattle.ffct.proofs.Steps.{rotated_zero, rotated_some, unrounded_low, unrounded_middle, unrounded_high}
use Rattle.ffct.proofs.Steps.{cosine_step, sine_step, dct_step, dct_one}
use Rattle.ffct.proofs.Sums.{cos_sum, sin_sum, dct_sum, cos_size, sin_size, cos_mirror, sin_mirror, dct_mirror, sin_middle, dct_end}
use Rattle.ffct.proofs.Splits.{cos_split, sin_split, dct_rearranged, turned}
use Rattle.ffct.proofs.Rotation.{rotation_error_lem}

-- the coefficient y, times B, is within e of the exact sum E
pub record Near (y E : ℤ) (e : ℕ) : Type 0 where
  pub gap : y *ℤ int B -ℤ E within e

-- the samples below n are of size at most X
abbrev pub Bounded : ℕ → Samples → ℕ → Type 0
Bounded n x X = (i : ℕ) → i < n → x i within X

pub near_neg : {y E : ℤ} {e : ℕ} → Near y E e → Near (neg_ℤ y) (neg_ℤ E) e
near_neg {y} {E} h = record { gap = within_eq (flipped y (int B) E) (within_neg h.gap) }
  where
    flipped : (y b E : ℤ) → neg_ℤ (y *ℤ b -ℤ E) ≡ neg_ℤ y *ℤ b -ℤ neg_ℤ E
    flipped y b E = simp expand

pub near_add : {y z E F : ℤ} {e f : ℕ} → Near y E e → Near z F f → Near (y +ℤ z) (E +ℤ F) (e + f)
near_add {y} {z} {E} {F} h g = record { gap = within_eq (gathered y z (int B) E F) (within_add h.gap g.gap) }
  where
    gathered : (y z b E F : ℤ) → (y *ℤ b -ℤ E) +ℤ (z *ℤ b -ℤ F) ≡ (y +ℤ z) *ℤ b -ℤ (E +ℤ F)
    gathered y z b E F = simp expand

near_le : {y E : ℤ} {e f : ℕ} → Near y E e → e ≤ f → Near y E f
near_le h l = record { gap = within_le h.gap l }

near_nothing : {e : ℕ} → Near (int 0) (int 0) e
near_nothing = record { gap = simp diff (omega near) }

-- ---- out of range
module _ (w m : ℕ) (x f : ℕ → ℤ) (k e : ℕ) (l : k ≤ 2 * m) where
  pub cosine_beyond_lem : 2 * m * w ≡ 1024 → ((j : ℕ) → j ≤ m → Near (f j) (cos_sum w (2 * m) x j) e) →
      Near (cosine_beyond (2 * m) f k) (cos_sum w (2 * m) x k) e
  cosine_beyond_lem q h = ⊎_elim
      (λ g. rw (cosine_low (2 * m) f k (omega arith)) (h k g))
      (λ g. rw (cosine_high (2 * m) f k (omega arith), cos_mirror w (2 * m) x q k (2 * m - k) (omega arith)) (h (2 * m - k) (omega arith)))
      (le_or_lt k m)

  pub sine_beyond_lem : 2 * m * w ≡ 1024 → ((j : ℕ) → j ≤ m → Near (f j) (sin_sum w (2 * m) x j) e) →
      Near (sine_beyond (2 * m) f k) (sin_sum w (2 * m) x k) e
  sine_beyond_lem q h = ⊎_elim
      (λ g. rw (sine_low (2 * m) f k (omega arith)) (h k g))
      (λ g.
      rw (sine_high (2 * m) f k (omega arith), sin_mirror w (2 * m) x q k (2 * m - k) (omega arith))
      (near_neg (h (2 * m - k) (omega arith))))
      (le_or_lt k m)

  dct_beyond_lem : m * w ≡ 1024 → ((j : ℕ) → j < m → Near (f j) (dct_sum w m x j) e) → Near (dct_beyond m f k) (dct_sum w m x k) e
  dct_beyond_lem q h = ⊎_elim
      (λ g. ⊎_elim (λ g₂. at_end (omega arith)) (λ g₂. rw (dct_low m f k g₂) (h k g₂)) (le_or_lt m k))
      (λ g. rw (dct_high m f k g, dct_mirror w m x q k (2 * m - k) (omega arith)) (near_neg (h (2 * m - k) (omega arith))))
      (le_or_lt k m)
    where
      at_end : k ≡ m → Near (dct_beyond m f k) (dct_sum w m x k) e
      at_end g =
          let zero : dct_beyond m f k ≡ int 0 = (unfold int in dct_middle m f k g) in
          rw (zero, ap (dct_sum w m x) g, dct_end w m x q) near_nothing

-- ---- the DCT of 2 m samples, from a cosine-DFT and a sine-DFT within e
rearranged_within : (m : ℕ) (y : Samples) {X : ℕ} → Bounded (2 * m) y X → Bounded (2 * m) (rearranged (2 * m) y) X
rearranged_within m y b i h =
    let s = rearranged_source m i h in
    rw (s.2 y) (b s.0 s.1)

-- the limit of a rotation's error: rounding, the table, the inputs, the circle
abbrev rotation_error : ℕ → ℕ → ℕ → ℕ
rotation_error n X e = 2 ^ 29 * 2 ^ 50 + 2 * (2 ^ 49 * ((n * (X * B) + e) / B)) + (2 * e + n * (X * addition_error))

module _ (m w : ℕ) (y C S : ℕ → ℤ) (X e : ℕ) (q : 2 * m * w ≡ 1024) (b : Bounded (2 * m) y X)
    (C-near : (j : ℕ) → j ≤ m → Near (C j) (cos_sum w (2 * m) (rearranged (2 * m) y) j) e)
    (S-near : (j : ℕ) → j ≤ m → Near (S j) (sin_sum w (2 * m) (rearranged (2 * m) y) j) e) where
  abbrev z : Samples
  z = rearranged (2 * m) y

  z_within : Bounded (2 * m) z X
  z_within = rearranged_within m y b

  -- (18) for the exact sums
  exact_turn : (k : ℕ) → K (k * w) *ℤ cos_sum w (2 * m) z k -ℤ sine_at (k * w) *ℤ sin_sum w (2 * m) z k -ℤ int B *ℤ dct_sum w (2 * m) y k
      within B * (2 * m * (X * addition_error))
  exact_turn k = rw (dct_rearranged w m y k q) (within_le (turned w (2 * m) z k z_within) (omega arith))

  -- T(i) and T(j) are near the cosine and the sine of the place k w
  entry : (j : ℕ) → j ≤ 1024 → T j *ℤ int (2 ^ 50) -ℤ K j within 2 ^ 49
  unfolding int
  entry j l = size_within _ (at_entry j l).near

  -- the rotation by the place k w, of coefficients u and v near the exact sums at k
  rotation : (k i j : ℕ) (u v : ℤ) → i ≡ k * w → j + k * w ≡ 1024 → Near u (cos_sum w (2 * m) z k) e → Near v (sin_sum w (2 * m) z k) e →
      Near (round (T i *ℤ u -ℤ T j *ℤ v)) (dct_sum w (2 * m) y k) (rotation_error (2 * m) X e)
  rotation k i j u v hi hj hu hv = record {
    gap =
        rotation_error_lem (2 ^ 29) (2 ^ 50) (2 ^ 49) B e (2 * m * (X * B)) (2 * m * (X * addition_error))
        (T i) (T j) u v (K (k * w)) (sine_at (k * w))
        (cos_sum w (2 * m) z k) (sin_sum w (2 * m) z k) (dct_sum w (2 * m) y k) (round (T i *ℤ u -ℤ T j *ℤ v))
        (lit< tt) refl (rounding (T i *ℤ u -ℤ T j *ℤ v))
        (rw (← hi) (entry i (omega arith))) (rw (mirror (k * w + 3072) j 1 (omega arith)) (entry j (omega arith)))
        (K_within _) (K_within _) hu.gap hv.gap (cos_size w (2 * m) z k z_within) (sin_size w (2 * m) z k z_within) (exact_turn k);
  }
    where
      rounding : (v : ℤ) → round v *ℤ int (2 * 2 ^ 29) -ℤ v within 2 ^ 29
      rounding v = unfold int in size_within _ (omega (arith, round_near v))

  -- the four cases of (19)
  at_zero : Near (C 0) (dct_sum w (2 * m) y 0) (rotation_error (2 * m) X e)
  unfolding cos_sum
  at_zero = near_le {e = e} (rw (dct_rearranged w m y 0 q ∙ start) (C-near 0 (omega arith))) (omega arith)
    where
      start : sum (2 * m) (λ i. z i *ℤ K (4 * w * i * 0 + 0 * w)) ≡ sum (2 * m) (λ i. z i *ℤ K (4 * w * i * 0))
      start = sum_cong (2 * m) _ _ (λ i h. ap (λ p. z i *ℤ K p) (omega arith))

  at_low : (k : ℕ) → k ≤ m → Near (round (T (k * w) *ℤ C k -ℤ T (1024 - k * w) *ℤ S k)) (dct_sum w (2 * m) y k) (rotation_error (2 * m) X e)
  at_low k l = rotation k (k * w) (1024 - k * w) (C k) (S k) refl (omega (arith, mul-le-mul_right w l)) (C-near k l) (S-near k l)

  at_middle : Near (round (T 512 *ℤ C m)) (dct_sum w (2 * m) y m) (rotation_error (2 * m) X e)
  at_middle =
      rw (alone (T 512) (C m))
      (rotation m 512 512 (C m) (int 0) (omega arith) (omega arith)
      (C-near m (omega arith)) (rw (sin_middle w (2 * m) z q m refl) near_nothing))
    where
      alone : (c C : ℤ) → c *ℤ C ≡ c *ℤ C -ℤ c *ℤ int 0
      alone c C = rw (parts c, parts C) (simp diff (omega near))

  at_high : (k j : ℕ) → k + j ≡ 2 * m → j ≤ m
      → Near (round (T (1024 - j * w) *ℤ C j +ℤ T (j * w) *ℤ S j)) (dct_sum w (2 * m) y k) (rotation_error (2 * m) X e)
  at_high k j h l =
      let places : k * w + j * w ≡ 1024 = omega (arith, ap (λ n. n * w) h) in
      rw (negated (T (1024 - j * w)) (T (j * w)) (C j) (S j))
      (rotation k (1024 - j * w) (j * w) (C j) (neg_ℤ (S j)) (omega arith) (omega arith)
      (rw (cos_mirror w (2 * m) z q k j h) (C-near j l)) (rw (sin_mirror w (2 * m) z q k j h) (near_neg (S-near j l))))
    where
      negated : (c s C S : ℤ) → c *ℤ C +ℤ s *ℤ S ≡ c *ℤ C -ℤ s *ℤ neg_ℤ S
      negated c s C S = simp expand

  rotated_near : (k : ℕ) → k < 2 * m → Near (rotated (2 * m) C S k) (dct_sum w (2 * m) y k) (rotation_error (2 * m) X e)
  rotated_near k h =
      ⊎_elim
      (λ l. ⊎_elim (λ l₂. middle (omega arith)) (λ l₂. ⊎_elim (λ l₃. zeroth (omega arith)) (λ l₃. low l₃ l₂) (le_or_lt k 0)) (le_or_lt m k))
      high (le_or_lt k m)
    where
      E : ℕ → Type 0
      E = λ k. Near (rotated (2 * m) C S k) (dct_sum w (2 * m) y k) (rotation_error (2 * m) X e)

      zeroth : k ≡ 0 → E k
      zeroth l = rw (rotated_zero (2 * m) C S k l, ap (dct_sum w (2 * m) y) l) at_zero

      low : 0 < k → k < m → E k
      low l l₂ = rw (rotated_some (2 * m) C S k l, unrounded_low m w C S q k l₂) (at_low k (omega arith))

      middle : k ≡ m → E k
      middle l = rw (rotated_some (2 * m) C S k (omega arith), unrounded_middle m w C S q k l, ap (dct_sum w (2 * m) y) l) at_middle

      high : m < k → E k
      high l =
          rw (rotated_some (2 * m) C S k (omega arith), unrounded_high m w C S q k l)
          (at_high k (2 * m - k) (omega arith) (omega arith))

-- ---- one and two samples: no error
no_gap : (z : ℤ) → z -ℤ z within 0
no_gap z = rw (parts z) (simp diff (omega near))

K_first : K 0 ≡ int B
unfolding int
K_first = K_start

-- every term of the sine sum is zero where its places are multiples of 2,048
sine_none : (w c n : ℕ) (x : Samples) (k : ℕ) → 4 * w ≡ 2048 * c → Near (int 0) (sin_sum w n x k) 0
sine_none w c n x k h = rw none near_nothing
  where
    at : (i : ℕ) → sine_at (4 * w * i * k) ≡ pos 0
    at i =
        ap K {x = 4 * w * i * k + 3072} {y = 2048 * (c * i * k + 1) + 1024} (omega (arith, ap (λ t. t * (i * k)) h))
        ∙ K_zero (c * i * k + 1)

    none : sin_sum w n x k ≡ int 0
    none = unfold sin_sum int in sum_cong n _ (λ i. pos 0) (λ i b. ap (λ z. x i *ℤ z) (at i) ∙ *ℤ-zero (x i)) ∙ sum_zero n

cosine_one : (w : ℕ) (x : Samples) (k : ℕ) → Near (x 0) (cos_sum w 1 x k) 0
unfolding cos_sum sum
cosine_one w x k =
    rw (ap K {x = 4 * w * 0 * k} {y = 0} (omega arith), K_first, +ℤ_idl (x 0 *ℤ int B)) (record { gap = no_gap (x 0 *ℤ int B) })

cosine_two : (x : Samples) (k : ℕ) → k ≤ 1 → Near ((cosine_dft 1 x).at k) (cos_sum 512 2 x k) 0
unfolding cosine_dft cos_sum sum
cosine_two x zero h = rw (K_first, +ℤ_idl (x 0 *ℤ int B)) (record { gap = sum_gap (x 0) (x 1) (int B) })
  where
    sum_gap : (u v b : ℤ) → (u +ℤ v) *ℤ b -ℤ (u *ℤ b +ℤ v *ℤ b) within 0
    sum_gap u v b = rw (parts u, parts v, parts b) (simp diff (omega near))
cosine_two x (suc zero) h =
    rw (opposite 2048 0 0 (omega arith), K_first, +ℤ_idl (x 0 *ℤ int B)) (record { gap = difference_gap (x 0) (x 1) (int B) })
  where
    difference_gap : (u v b : ℤ) → (u -ℤ v) *ℤ b -ℤ (u *ℤ b +ℤ v *ℤ neg_ℤ b) within 0
    difference_gap u v b = rw (parts u, parts v, parts b) (simp diff (omega near))
cosine_two x (suc (suc k)) h = absurd (omega arith)

dct_one_near : (w : ℕ) (x : Samples) (k : ℕ) → k ≡ 0 → Near ((dct 0 x).at k) (dct_sum w 1 x k) 0
unfolding dct_sum sum
dct_one_near w x k h =
    rw (dct_one 0 x k, ap K {x = (2 * 0 + 1) * k * w} {y = 0} (omega (arith, ap (λ n. n * w) h)), K_first, +ℤ_idl (x 0 *ℤ int B))
    (record { gap = no_gap (x 0 *ℤ int B) })

-- ---- the errors, level by level, for samples up to X
unfoldable pub dct_error : ℕ → ℕ → ℕ → ℕ
dct_error zero X e = 0
dct_error (suc L) X e = rotation_error (len (suc L)) X e

unfoldable pub dft_error : ℕ → ℕ → ℕ
dft_error zero X = 0
dft_error (suc zero) X = 0
dft_error (suc (suc L)) X = dft_error (suc L) X + dct_error L (2 * X) (dft_error L (2 * X))

-- coefficient k of the cosine-DFT and of the sine-DFT of a level are within e of their exact sums
abbrev pub BothNear : ℕ → ℕ → Samples → ℕ → ℕ → Type 0
BothNear L w x k e = Near ((cosine_dft L x).at k) (cos_sum w (len L) x k) e × Near ((sine_dft L x).at k) (sin_sum w (len L) x k) e

-- what is shown of them, for all samples
abbrev DftNear : ℕ → Type 0
DftNear L = (w : ℕ) (x : Samples) (X : ℕ) → len L * w ≡ 1024 → Bounded (len L) x X
    → (k : ℕ) → 2 * k ≤ len L → BothNear L w x k (dft_error L X)

-- the DCT of that level
dct_near_of : (L : ℕ) → DftNear L → (w : ℕ) (x : Samples) (X : ℕ) → len L * w ≡ 1024 → Bounded (len L) x X → (k : ℕ) → k < len L →
    Near ((dct L x).at k) (dct_sum w (len L) x k) (dct_error L X (dft_error L X))
unfolding dct_error
dct_near_of zero H w x X q b k h = dct_one_near w x k (omega arith)
dct_near_of (suc L) H w x X q b k h =
    rw (dct_step L x k)
    (rotated_near (len L) w x _ _ X (dft_error (suc L) X) q b (λ j l. (both j l).0) (λ j l. (both j l).1) k h)
  where
    z : Samples
    z = rearranged (2 * len L) x

    both : (j : ℕ) → j ≤ len L → BothNear (suc L) w z j (dft_error (suc L) X)
    both j l = H w z X q (rearranged_within (len L) x b) j (omega arith)

-- ---- a level from the two below it
folded_sums_within : (m : ℕ) (x : Samples) {X : ℕ} → Bounded (2 * (2 * m)) x X → Bounded m (folded_sums (4 * m) x) (2 * X)
folded_sums_within m x b i h = within_le (within_add (b (2 * i + 1) (omega arith)) (b (4 * m - 2 * i - 1) (omega arith))) (omega arith)

pub alternate_within : (n : ℕ) {z : ℤ} {X : ℕ} → z within X → alternate n z within X
unfolding alternate
alternate_within zero h = h
alternate_within (suc n) h = within_neg (alternate_within n h)

folded_differences_within : (m : ℕ) (x : Samples) {X : ℕ} → Bounded (2 * (2 * m)) x X → Bounded m (folded_differences (4 * m) x) (2 * X)
folded_differences_within m x b i h =
    alternate_within _ (within_le (within_sub (b (2 * i + 1) (omega arith)) (b (4 * m - 2 * i - 1) (omega arith))) (omega arith))

one_near : DftNear 0
unfolding cosine_dft dft_error int
one_near w x X q b k h = (cosine_one w x k, sine_none w 2 1 x k (omega arith))

two_near : DftNear 1
unfolding cosine_dft dft_error int
two_near w x X q b k h = (
  subst (λ w. Near ((cosine_dft 1 x).at k) (cos_sum w 2 x k) 0) {x = 512} {y = w} (omega arith) (cosine_two x k (omega arith)),
  sine_none w 1 2 x k (omega arith),
)

pub apart_le : (m k : ℕ) → k ≤ 2 * m → apart m k ≤ 2 * m
unfolding apart
apart_le m k h = omega arith

pub dft_near : (L : ℕ) → DftNear L
unfolding dft_error
dft_near zero w x X q b k h = one_near w x X q b k h
dft_near (suc zero) w x X q b k h = two_near w x X q b k h
dft_near (suc (suc L)) w x X q b k h = (
  rw (cosine_step L x k, cos_split w (len L) x k (omega arith))
      (near_add
      (cosine_beyond_lem (2 * w) (len L) (evens x) _ k _ (omega arith) (omega arith)
      (λ j l. (dft_near (suc L) (2 * w) (evens x) X (omega arith) evens_within j (omega arith)).0))
      (dct_beyond_lem (4 * w) (len L) (folded_sums (4 * len L) x) _ k _ (omega arith) (omega arith)
      (dct_near_of L (dft_near L) (4 * w) (folded_sums (4 * len L) x) (2 * X) (omega arith) (folded_sums_within (len L) x b)))),
  rw (sine_step L x k, sin_split w (len L) x k (omega arith))
      (near_add
      (sine_beyond_lem (2 * w) (len L) (evens x) _ k _ (omega arith) (omega arith)
      (λ j l. (dft_near (suc L) (2 * w) (evens x) X (omega arith) evens_within j (omega arith)).1))
      (dct_beyond_lem (4 * w) (len L) (folded_differences (4 * len L) x) _ (apart (len L) k) _ (apart_le (len L) k
      (omega arith)) (omega arith)
      (dct_near_of L (dft_near L) (4 * w) (folded_differences (4 * len L) x) (2 * X) (omega arith)
      (folded_differences_within (len L) x b)))),
)
  where
    evens_within : Bounded (2 * len L) (evens x) X
    evens_within i l = b (2 * i) (omega arith)

pub dct_near : (L w : ℕ) (x : Samples) (X : ℕ) → len L * w ≡ 1024 → Bounded (len L) x X → (k : ℕ) → k < len L →
    Near ((dct L x).at k) (dct_sum w (len L) x k) (dct_error L X (dft_error L X))
dct_near L = dct_near_of L (dft_near L)
