-- The sum of a value by its even and its odd coefficients: those of n and N - 1 - n have the same even part, and odd parts that differ in
-- sign.
-- Assumes nothing.
use mathlib.Core.Path.{◌≡◌, sym, ap, ap₂, ◌∙◌}
use mathlib.Core.List.{List}
use Prim.Native.Nat.{ℕ, suc, ◌+◌, ◌-◌, ◌*◌, ◌^◌, ◌<◌}
use native.Mathlib.Omega.{arith}
use lib.IntN.{ℤ, pos, neg_ℤ, ◌+ℤ◌, ◌-ℤ◌, ◌*ℤ◌}
use Rattle.whole.specs.Sum.{sum}
use Rattle.whole.proofs.Difference.{int, parts, diff}
use Rattle.whole.proofs.Ring.{*ℤ-negℤ}
use Rattle.whole.proofs.Size.{near}
use Rattle.whole.proofs.Sums.{sum_cong, sum_first, sum_even_odd, sum_neg}
use Rattle.words.specs.Words.{word}
use Rattle.ffct.proofs.Sums.{dct_place}
use Rattle.inverse.specs.Inverse.{T°, inverse_sum}
use Rattle.inverse.specs.Steps.{product}
use Rattle.inverse.proofs.Waves.{wave_start, wave_mirror, wave_opposite}

-- ---- coefficient 0 once and the others twice is all twice, less coefficient 0 once
twice_less : (first rest : ℤ) → first +ℤ int 2 *ℤ rest ≡ int 2 *ℤ (first +ℤ rest) -ℤ first
twice_less first rest = rw (parts first, parts rest) (simp diff (omega near))

by_halves : (m : ℕ) (f : ℕ → ℤ) → 0 < m →
    f 0 +ℤ int 2 *ℤ sum (2 * m - 1) (λ i. f (i + 1)) ≡ int 2 *ℤ (sum m (λ i. f (2 * i)) +ℤ sum m (λ i. f (2 * i + 1))) -ℤ f 0
by_halves m f h =
    twice_less (f 0) (sum (2 * m - 1) (λ i. f (i + 1)))
    ∙ ap (λ s. int 2 *ℤ s -ℤ f 0)
    (sym (sum_first (2 * m - 1) f) ∙ ap (λ n. sum n f) {x = suc (2 * m - 1)} {y = 2 * m} (omega arith) ∙ sum_even_odd m f)

-- ---- of N = 2 m coefficients, with N w = 1,024
module _ (m w : ℕ) (cs : List ℤ) (some : 0 < m) (per : 2 * m * w ≡ 1024) where
  -- the product at k of the value n
  abbrev at : ℕ → ℕ → ℤ
  at n k = word cs k *ℤ T° ((2 * n + 1) * k * w)

  at_start : (n : ℕ) → at n 0 ≡ word cs 0 *ℤ pos (2 ^ 30)
  at_start n = ap (λ t. word cs 0 *ℤ t) (ap T° {x = (2 * n + 1) * 0 * w} {y = 0} (omega arith) ∙ wave_start)

  stated : (n : ℕ) → inverse_sum (2 * m) (word cs) n ≡ word cs 0 *ℤ pos (2 ^ 30) +ℤ int 2 *ℤ sum (2 * m - 1) (λ i. at n (i + 1))
  unfolding inverse_sum int
  stated n = ap (λ s. word cs 0 *ℤ pos (2 ^ 30) +ℤ pos 2 *ℤ s)
      (sum_cong (2 * m - 1) _ _ (λ i l. ap (λ p. word cs (i + 1) *ℤ T° p) (dct_place w (2 * m) ((2 * n + 1) * (i + 1)) per)))

  in_halves : (n : ℕ) → inverse_sum (2 * m) (word cs) n
      ≡ int 2 *ℤ (sum m (λ i. at n (2 * i)) +ℤ sum m (λ i. at n (2 * i + 1))) -ℤ word cs 0 *ℤ pos (2 ^ 30)
  in_halves n =
      stated n ∙ ap (λ z. z +ℤ int 2 *ℤ sum (2 * m - 1) (λ i. at n (i + 1))) (sym (at_start n))
      ∙ by_halves m (at n) some ∙ ap (λ z. int 2 *ℤ (sum m (λ i. at n (2 * i)) +ℤ sum m (λ i. at n (2 * i + 1))) -ℤ z) (at_start n)

  -- the even and the odd products of the value n, as code sums them
  abbrev evens : ℕ → ℤ
  evens n = sum m (product cs 0 ((2 * n + 1) * w))

  abbrev odds : ℕ → ℤ
  odds n = sum m (product cs 1 ((2 * n + 1) * w))

  pub near_sum : (n : ℕ) → inverse_sum (2 * m) (word cs) n ≡ int 2 *ℤ (evens n +ℤ odds n) -ℤ word cs 0 *ℤ pos (2 ^ 30)
  near_sum n = in_halves n ∙ ap (λ s. int 2 *ℤ s -ℤ word cs 0 *ℤ pos (2 ^ 30)) (ap₂ ◌+ℤ◌
      (sum_cong m _ _ (λ i l. ap₂ (λ k p. word cs k *ℤ T° p) {x = 2 * i} {y = 0 + 2 * i} (omega arith) (omega arith)))
      (sum_cong m _ _ (λ i l. ap₂ (λ k p. word cs k *ℤ T° p) {x = 2 * i + 1} {y = 1 + 2 * i} (omega arith) (omega arith))))

  pub far_sum : (n r : ℕ) → n + r + 1 ≡ 2 * m →
      inverse_sum (2 * m) (word cs) r ≡ int 2 *ℤ (evens n -ℤ odds n) -ℤ word cs 0 *ℤ pos (2 ^ 30)
  far_sum n r h = in_halves r ∙ ap (λ s. int 2 *ℤ s -ℤ word cs 0 *ℤ pos (2 ^ 30)) (ap₂ ◌+ℤ◌
      (sum_cong m _ _ (λ i l. even i))
      (sum_cong m _ (λ i. neg_ℤ (product cs 1 ((2 * n + 1) * w) i)) (λ i l. odd i) ∙ sum_neg m (product cs 1 ((2 * n + 1) * w))))
    where
      -- the places of r and n at k add up to k half turns
      places : (k k' : ℕ) → k ≡ k' → (2 * r + 1) * k * w + (2 * n + 1) * w * k' ≡ 2048 * k
      places k k' e = omega (arith, e, ap (λ t. 2 * t * k * w) h, ap (λ t. 2 * t * k) per, ap (λ t. (2 * n + 1) * w * t) e)

      even : (i : ℕ) → at r (2 * i) ≡ product cs 0 ((2 * n + 1) * w) i
      even i = ap₂ ◌*ℤ◌ (ap (word cs) {x = 2 * i} {y = 0 + 2 * i} (omega arith))
          (wave_mirror _ _ i (places (2 * i) (0 + 2 * i) (omega arith) ∙ omega arith))

      odd : (i : ℕ) → at r (2 * i + 1) ≡ neg_ℤ (product cs 1 ((2 * n + 1) * w) i)
      odd i = ap₂ ◌*ℤ◌ (ap (word cs) {x = 2 * i + 1} {y = 1 + 2 * i} (omega arith))
          (wave_opposite _ _ i (places (2 * i + 1) (1 + 2 * i) (omega arith) ∙ omega arith))
          ∙ *ℤ-negℤ (word cs (1 + 2 * i)) (T° ((2 * n + 1) * w * (1 + 2 * i)))
