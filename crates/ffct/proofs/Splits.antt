-- (12), (15), (16) and (18) of the exact sums. The first three hold exactly; the rotation (18) holds as nearly as the addition law of the
-- circle.
-- Assumes nothing.
use mathlib.Core.Path.{◌≡◌, refl, sym, ◌∙◌, ap, ap₂}
use mathlib.Core.Logic.{⊎_elim}
use Prim.Native.Nat.{ℕ, zero, suc, ◌+◌, ◌*◌, ◌-◌, ◌<◌}
use native.Mathlib.Omega.{arith}
use lib.IntN.{ℤ, neg_ℤ, neg_ℤ-neg_ℤ, ◌+ℤ◌, ◌-ℤ◌, ◌*ℤ◌}
use Rattle.whole.specs.Sum.{sum}
use Rattle.whole.proofs.Cases.{le_or_lt}
use Rattle.whole.proofs.Difference.{int, parts, diff}
use Rattle.whole.proofs.Ring.{expand, *ℤ-negℤ, negℤ-*ℤ}
use Rattle.whole.proofs.Size.{near, ◌within◌, size_within, within_eq, within_mul}
use Rattle.whole.proofs.Sums.{sum_cong, sum_add, sum_sub, sum_scale, sum_halves, sum_reverse, sum_even_odd, sum_within}
use Rattle.circle.specs.Circle.{B, K, sine_at}
use Rattle.circle.specs.Laws.{addition_error}
use Rattle.circle.proofs.Places.{mirror, opposite}
use Rattle.circle.proofs.Addition.{addition}
use Rattle.words.specs.Words.{Samples}
use Rattle.ffct.specs.Transforms.{evens, folded_sums, folded_differences, alternate, rearranged, apart}
use Rattle.ffct.proofs.Steps.{rearranged_near, rearranged_far}
use Rattle.ffct.proofs.Sums.{cos_sum, sin_sum, dct_sum}

-- a sum of 2 m terms, its far half folded back onto its near half
sum_folded : (m : ℕ) (f : ℕ → ℤ) → sum (2 * m) f ≡ sum m (λ i. f i +ℤ f (2 * m - 1 - i))
sum_folded m f =
    sum_halves m f
    ∙ ap (λ z. sum m f +ℤ z) (sum_reverse m (λ i. f (m + i)) ∙ sum_cong m _ (λ i. f (2 * m - 1 - i)) (λ i h. ap f (omega arith)))
    ∙ sym (sum_add m f (λ i. f (2 * m - 1 - i)))

-- the even places of 4 m, and the odd ones folded
even_and_folded : (m : ℕ) (f : ℕ → ℤ) →
    sum (2 * (2 * m)) f ≡ sum (2 * m) (λ i. f (2 * i)) +ℤ sum m (λ i. f (2 * i + 1) +ℤ f (4 * m - 2 * i - 1))
even_and_folded m f =
    sum_even_odd (2 * m) f ∙ ap (λ z. sum (2 * m) (λ i. f (2 * i)) +ℤ z) (sum_folded m (λ i. f (2 * i + 1)) ∙ sum_cong m _ _ far)
  where
    far : (i : ℕ) → i < m → f (2 * i + 1) +ℤ f (2 * (2 * m - 1 - i) + 1) ≡ f (2 * i + 1) +ℤ f (4 * m - 2 * i - 1)
    far i h = ap (λ j. f (2 * i + 1) +ℤ f j) {x = 2 * (2 * m - 1 - i) + 1} {y = 4 * m - 2 * i - 1} (omega arith)

-- ---- (−1)^n
pub alternate_mul : (n : ℕ) (z t : ℤ) → alternate n z *ℤ t ≡ z *ℤ alternate n t
unfolding alternate
alternate_mul zero z t = refl
alternate_mul (suc n) z t = negℤ-*ℤ (alternate n z) t ∙ ap neg_ℤ (alternate_mul n z t) ∙ sym (*ℤ-negℤ z (alternate n t))

alternate_neg : (n : ℕ) (z : ℤ) → alternate n (neg_ℤ z) ≡ neg_ℤ (alternate n z)
unfolding alternate
alternate_neg zero z = refl
alternate_neg (suc n) z = ap neg_ℤ (alternate_neg n z)

alternate_twice : (n : ℕ) (z : ℤ) → alternate n (alternate n z) ≡ z
unfolding alternate
alternate_twice zero z = refl
alternate_twice (suc n) z = ap neg_ℤ (alternate_neg n (alternate n z)) ∙ neg_ℤ-neg_ℤ _ ∙ alternate_twice n z

-- n half turns: between places whose sum, and whose difference, is known
half_turns : (n p q m : ℕ) → p + q ≡ 4096 * m + 2048 * n → K p ≡ alternate n (K q)
unfolding alternate
half_turns zero p q m h = mirror p q m (omega arith)
half_turns (suc zero) p q m h = opposite p q m (omega arith)
half_turns (suc (suc n)) p q m h = half_turns n p q (m + 1) (omega arith) ∙ sym (neg_ℤ-neg_ℤ (alternate n (K q)))

half_turns_on : (n p q m : ℕ) → q ≡ p + (4096 * m + 2048 * n) → K p ≡ alternate n (K q)
half_turns_on n p q m h = mirror p (4095 * p) p (omega arith) ∙ half_turns n (4095 * p) q (p + m) (omega arith)

-- ---- (12)
module _ (w m : ℕ) (x : Samples) (k : ℕ) (q : 4 * m * w ≡ 1024) where
  pub cos_split : cos_sum w (2 * (2 * m)) x k ≡ cos_sum (2 * w) (2 * m) (evens x) k +ℤ dct_sum (4 * w) m (folded_sums (4 * m) x) k
  unfolding cos_sum dct_sum
  cos_split =
      even_and_folded m (λ i. x i *ℤ K (4 * w * i * k))
      ∙ ap₂ ◌+ℤ◌ (sum_cong (2 * m) _ _ (λ i h. ap (λ p. x (2 * i) *ℤ K p) (omega arith))) (sum_cong m _ _ folded)
    where
      joined : (a b : ℤ) {u v t : ℤ} → u ≡ t → v ≡ t → a *ℤ u +ℤ b *ℤ v ≡ (a +ℤ b) *ℤ t
      joined a b {u} {v} {t} e f = rw (e, f, parts a, parts b, parts t) (simp diff (omega near))

      places : (i r : ℕ) → r + (2 * i + 1) ≡ 4 * m → 4 * w * r * k + (2 * i + 1) * k * (4 * w) ≡ 4096 * k
      places i r h = omega (arith, ap (λ t. 4 * w * k * t) h, ap (λ t. 4 * t * k) q)

      folded : (i : ℕ) → i < m →
          x (2 * i + 1) *ℤ K (4 * w * (2 * i + 1) * k) +ℤ x (4 * m - 2 * i - 1) *ℤ K (4 * w * (4 * m - 2 * i - 1) * k)
          ≡ (x (2 * i + 1) +ℤ x (4 * m - 2 * i - 1)) *ℤ K ((2 * i + 1) * k * (4 * w))
      folded i h =
          joined (x (2 * i + 1)) (x (4 * m - 2 * i - 1)) (ap K (omega arith)) (mirror _ _ k (places i (4 * m - 2 * i - 1) (omega arith)))

  -- ---- (15), with (14) for the place k of the sine and d = N/4 − k of the DCT
  sin_folded : (d : ℕ) → ((i : ℕ) → K ((2 * i + 1) * d * (4 * w)) ≡ alternate i (sine_at (4 * w * (2 * i + 1) * k))) →
      sin_sum w (2 * (2 * m)) x k ≡ sin_sum (2 * w) (2 * m) (evens x) k +ℤ dct_sum (4 * w) m (folded_differences (4 * m) x) d
  unfolding sin_sum dct_sum
  sin_folded d identity =
      even_and_folded m (λ i. x i *ℤ sine_at (4 * w * i * k))
      ∙ ap₂ ◌+ℤ◌ (sum_cong (2 * m) _ _ (λ i h. ap (λ p. x (2 * i) *ℤ sine_at p) (omega arith))) (sum_cong m _ _ folded)
    where
      joined : (a b t : ℤ) {v : ℤ} → v ≡ neg_ℤ t → a *ℤ t +ℤ b *ℤ v ≡ (a -ℤ b) *ℤ t
      joined a b t {v} f = rw (f, parts a, parts b, parts t) (simp diff (omega near))

      places : (i r : ℕ) → r + (2 * i + 1) ≡ 4 * m → 4 * w * r * k + 3072 + (4 * w * (2 * i + 1) * k + 3072) ≡ 4096 * (k + 1) + 2048
      places i r h = omega (arith, ap (λ t. 4 * w * k * t) h, ap (λ t. 4 * t * k) q)

      folded : (i : ℕ) → i < m →
          x (2 * i + 1) *ℤ sine_at (4 * w * (2 * i + 1) * k) +ℤ x (4 * m - 2 * i - 1) *ℤ sine_at (4 * w * (4 * m - 2 * i - 1) * k)
          ≡ alternate i (x (2 * i + 1) -ℤ x (4 * m - 2 * i - 1)) *ℤ K ((2 * i + 1) * d * (4 * w))
      folded i h =
          joined (x (2 * i + 1)) (x (4 * m - 2 * i - 1)) _ (opposite _ _ (k + 1) (places i (4 * m - 2 * i - 1) (omega arith)))
          ∙ ap (λ z. (x (2 * i + 1) -ℤ x (4 * m - 2 * i - 1)) *ℤ z) (sym (alternate_twice i _) ∙ ap (alternate i) (sym (identity i)))
          ∙ sym (alternate_mul i (x (2 * i + 1) -ℤ x (4 * m - 2 * i - 1)) (K ((2 * i + 1) * d * (4 * w))))

  pub sin_split : sin_sum w (2 * (2 * m)) x k
      ≡ sin_sum (2 * w) (2 * m) (evens x) k +ℤ dct_sum (4 * w) m (folded_differences (4 * m) x) (apart m k)
  unfolding apart
  sin_split =
      ⊎_elim
      (λ l. sin_folded (apart m k) (λ i. half_turns i _ _ 1 (below i (apart m k) (omega arith))))
      (λ l. sin_folded (apart m k) (λ i. half_turns_on i _ _ 1 (above i (apart m k) (omega arith))))
      (le_or_lt k m)
    where
      below : (i d : ℕ) → k + d ≡ m → (2 * i + 1) * d * (4 * w) + (4 * w * (2 * i + 1) * k + 3072) ≡ 4096 * 1 + 2048 * i
      below i d h = omega (arith, ap (λ t. (2 * i + 1) * (4 * w) * t) h, ap (λ t. (2 * i + 1) * t) q)

      above : (i d : ℕ) → m + d ≡ k → 4 * w * (2 * i + 1) * k + 3072 ≡ (2 * i + 1) * d * (4 * w) + (4096 * 1 + 2048 * i)
      above i d h = omega (arith, ap (λ t. (2 * i + 1) * (4 * w) * t) h, ap (λ t. (2 * i + 1) * t) q)

-- ---- (16), (17)
module _ (w m : ℕ) (x : Samples) (k : ℕ) (q : 2 * m * w ≡ 1024) where
  pub dct_rearranged : dct_sum w (2 * m) x k ≡ sum (2 * m) (λ i. rearranged (2 * m) x i *ℤ K (4 * w * i * k + k * w))
  unfolding dct_sum
  dct_rearranged =
      sum_even_odd m (λ i. x i *ℤ K ((2 * i + 1) * k * w))
      ∙ sym (sum_add m _ _)
      ∙ sum_cong m _ _ (λ i h. ap₂ ◌+ℤ◌ (near_half i h) (far_half i h))
      ∙ sym (sum_folded m (λ i. rearranged (2 * m) x i *ℤ K (4 * w * i * k + k * w)))
    where
      near_half : (i : ℕ) → i < m → x (2 * i) *ℤ K ((2 * (2 * i) + 1) * k * w) ≡ rearranged (2 * m) x i *ℤ K (4 * w * i * k + k * w)
      near_half i h = ap₂ ◌*ℤ◌ (sym (rearranged_near m x i h)) (ap K (omega arith))

      places : (i r : ℕ) → r + i + 1 ≡ 2 * m → (2 * (2 * i + 1) + 1) * k * w + (4 * w * r * k + k * w) ≡ 4096 * k
      places i r h = omega (arith, ap (λ t. 4 * w * k * t) h, ap (λ t. 4 * t * k) q)

      far_half : (i : ℕ) → i < m →
          x (2 * i + 1) *ℤ K ((2 * (2 * i + 1) + 1) * k * w)
          ≡ rearranged (2 * m) x (2 * m - 1 - i) *ℤ K (4 * w * (2 * m - 1 - i) * k + k * w)
      far_half i h = ap₂ ◌*ℤ◌ (sym (rearranged_far m x i h)) (mirror _ _ k (places i (2 * m - 1 - i) (omega arith)))

-- ---- (18): the sum turned by k w, from the cosine sum and the sine sum, by the addition law
pub near_sum : (p q : ℕ) → K p *ℤ K q -ℤ sine_at p *ℤ sine_at q -ℤ int B *ℤ K (p + q) within addition_error * B
near_sum p q = unfold int in size_within _ (addition p q).cosine

module _ (w n : ℕ) (y : Samples) (k : ℕ) {X : ℕ} (b : (i : ℕ) → i < n → y i within X) where
  pub turned : K (k * w) *ℤ cos_sum w n y k -ℤ sine_at (k * w) *ℤ sin_sum w n y k -ℤ int B *ℤ sum n (λ i. y i *ℤ K (4 * w * i * k + k * w))
      within n * (X * (addition_error * B))
  unfolding cos_sum sin_sum
  turned =
      within_eq
      (sum_cong n _ _ (λ i h. spread (int B) (K (k * w)) (sine_at (k * w)) (y i) (K (p i)) (sine_at (p i)) (K (p i + k * w)))
      ∙ sum_sub n _ _
      ∙ ap₂ ◌-ℤ◌ (sum_sub n _ _ ∙ ap₂ ◌-ℤ◌ (sum_scale n (K (k * w)) _) (sum_scale n (sine_at (k * w)) _)) (sum_scale n (int B) _))
      (sum_within n _ (λ i h. within_mul (b i h) (near_sum (p i) (k * w))))
    where
      p : ℕ → ℕ
      p = λ i. 4 * w * i * k

      spread : (b c s y u v t : ℤ) → y *ℤ (u *ℤ c -ℤ v *ℤ s -ℤ b *ℤ t) ≡ c *ℤ (y *ℤ u) -ℤ s *ℤ (y *ℤ v) -ℤ b *ℤ (y *ℤ t)
      spread b c s y u v t = simp expand
