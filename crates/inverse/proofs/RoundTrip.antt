-- A block sent through the DCT and back: no coefficient is refused, and each sample comes back within N. The errors are those of the
-- coefficients and of the circle (`inverse_of_near` of ffct), of T° and of the rounding of the value.
-- Assumes nothing.
use mathlib.Core.Path.{◌≡◌, ap, subst, ◌∙◌}
use Prim.Native.Nat.{ℕ, ◌+◌, ◌-◌, ◌*◌, ◌/◌, ◌^◌, ◌≤◌, ◌<◌}
use native.Mathlib.Omega.{arith}
use lib.Dec.{leb, leb→le, lit<}
use lib.IntN.{ℤ, ◌+ℤ◌, ◌-ℤ◌, ◌*ℤ◌}
use Rattle.whole.specs.Round.{nearest}
use Rattle.whole.specs.Sum.{sum}
use Rattle.whole.proofs.Cases.{both, below, below_at}
use Rattle.whole.proofs.Difference.{int, parts, diff}
use Rattle.whole.proofs.Ring.{expand}
use Rattle.whole.proofs.Rounding.{half_near}
use Rattle.whole.proofs.Size.{near, ◌within◌, size_within, within_size, within_int, within_eq, within_le, within_mul, within_trans}
use Rattle.whole.proofs.Sums.{sum_sub, sum_scaled, sum_within}
use Rattle.circle.specs.Circle.{B, K}
use Rattle.circle.specs.Laws.{addition_error}
use Rattle.words.specs.Words.{Samples}
use Rattle.lengths.specs.Block.{top_level, largest_sample, AcceptedBlock}
use Rattle.ffct.specs.Exact.{exact_dct}
use Rattle.ffct.specs.Orthogonality.{exact_inverse}
use Rattle.ffct.specs.Transforms.{dct}
use Rattle.lengths.proofs.Lengths.{len, pow_len, per, len_per}
use Rattle.ffct.proofs.Sums.{dct_exact, dct_size}
use Rattle.ffct.proofs.Rotation.{coefficient_size}
use Rattle.ffct.proofs.Limits.{limits}
use Rattle.ffct.proofs.Orthogonality.{inverse_of_near}
use Rattle.inverse.specs.Inverse.{T°, inverse_sum, inverse_dct, largest_coefficient}
use Rattle.inverse.specs.Laws.{RoundTrip}
use Rattle.inverse.proofs.Waves.{wave_near}

-- ---- the sum with T°, times 2^50, is near the sum with K: their first terms are equal, and T°(p) 2^50 is within 2^49 of K(p)
first_gone : (a s u h r : ℤ) → int 2 *ℤ (s *ℤ r -ℤ u) ≡ (a *ℤ h +ℤ int 2 *ℤ s) *ℤ r -ℤ (a *ℤ (h *ℤ r) +ℤ int 2 *ℤ u)
first_gone a s u h r = rw (parts a, parts s, parts u, parts h, parts r) (simp diff (omega near))

sum_near : (N : ℕ) (c : ℕ → ℤ) (n : ℕ) {C : ℕ} → ((k : ℕ) → k < N → c k within C) →
    inverse_sum N c n *ℤ int (2 ^ 50) -ℤ exact_inverse N c n within (N - 1) * (C * 2 ^ 50)
unfolding inverse_sum exact_inverse int
sum_near N c n h =
    within_le
    (within_eq
    (ap (λ z. int 2 *ℤ z) (sum_sub (N - 1) _ _ ∙ ap (λ z. z -ℤ sum (N - 1) k) (sum_scaled (N - 1) t (int (2 ^ 50))))
    ∙ first_gone (c 0) (sum (N - 1) t) (sum (N - 1) k) (int (2 ^ 30)) (int (2 ^ 50)))
    (within_mul (within_int 2)
    (sum_within (N - 1) _
    (λ i l. within_eq (out (c (i + 1)) (T° (p i)) (K (p i)) (int (2 ^ 50))) (within_mul (h (i + 1) (omega arith)) (wave_near (p i)))))))
    (omega arith)
  where
    p : ℕ → ℕ
    p = λ i. (2 * n + 1) * (i + 1) * 1024 / N

    t : ℕ → ℤ
    t = λ i. c (i + 1) *ℤ T° (p i)

    k : ℕ → ℤ
    k = λ i. c (i + 1) *ℤ K (p i)

    out : (a u v r : ℤ) → a *ℤ (u *ℤ r -ℤ v) ≡ a *ℤ u *ℤ r -ℤ a *ℤ v
    out a u v r = simp expand

-- so is the value, times N 2^80: its rounding adds half of that at most
value_near : (N : ℕ) (c : ℕ → ℤ) (n : ℕ) {C : ℕ} → 0 < N → ((k : ℕ) → k < N → c k within C) →
    inverse_dct N c n *ℤ int (N * B) -ℤ exact_inverse N c n within N * 2 ^ 79 + (N - 1) * (C * 2 ^ 50)
unfolding inverse_dct
value_near N c n l h =
    within_le
    (within_trans (inverse_dct N c n *ℤ int (N * B)) (inverse_sum N c n *ℤ int (2 ^ 50)) (exact_inverse N c n)
    (within_eq (scaled (inverse_dct N c n) (inverse_sum N c n) (N * 2 ^ 30) (2 ^ 50) (N * B) (omega arith))
    (within_mul (rounded (inverse_sum N c n) (N * 2 ^ 30) (N * 2 ^ 29) (omega arith) (omega arith)) (within_int (2 ^ 50))))
    (sum_near N c n h))
    (omega arith)
  where
    rounded : (v : ℤ) (m h : ℕ) → 2 * h ≡ m → 0 < h → nearest v m *ℤ int m -ℤ v within h
    rounded v m h e l = subst (λ m. nearest v m *ℤ int m -ℤ v within h) e (half_near v h l)

    scaled : (v s : ℤ) (m r b : ℕ) → m * r ≡ b → (v *ℤ int m -ℤ s) *ℤ int r ≡ v *ℤ int b -ℤ s *ℤ int r
    scaled v s m r b e = rw (← e, parts v, parts s) (simp diff (omega near))

-- ---- a block's errors, times N B: those of the coefficients, each within (N + 1)/4, and of the circle; those of rounding and of T°. Over
-- N B they are at most N at the eleven lengths, which the checker computes
abbrev error : ℕ → ℕ
error N =
    (2 * N - 1) * ((N + 1) * B / 4) + N * (largest_sample * (N * (2 * addition_error)))
    + (N * 2 ^ 79 + (N - 1) * (largest_coefficient N * 2 ^ 50))

small : (L : ℕ) → L ≤ top_level → error (2 ^ L) / (2 ^ L * B) ≤ 2 ^ L
unfolding both below
small L h = leb→le _ _ (below_at 11 (λ L. leb (error (2 ^ L) / (2 ^ L * B)) (2 ^ L)) tt L (omega arith))

-- ---- an accepted block: its coefficients c, and the values v of these
module _ {L : ℕ} {x : Samples} (a : AcceptedBlock L x) where
  abbrev c : ℕ → ℤ
  c = (dct L x).at

  abbrev v : ℕ → ℤ
  v = inverse_dct (2 ^ L) c

  sample_within : (i : ℕ) → i < 2 ^ L → x i within largest_sample
  sample_within i h = size_within (x i) (a.range i h)

  exact_within : (k : ℕ) → exact_dct (2 ^ L) x k within 2 ^ L * (largest_sample * B)
  exact_within k =
      rw (pow_len L, dct_exact (per L) (len L) x k (len_per L a.level_ok))
      (dct_size (per L) (len L) x k (λ i h. sample_within i (omega (arith, pow_len L))))

  coefficient_near : (k : ℕ) → k < 2 ^ L → c k *ℤ int B -ℤ exact_dct (2 ^ L) x k within (2 ^ L + 1) * B / 4
  unfolding int
  coefficient_near k h = size_within _ (omega (arith, ((limits L x a).dct k h).near))

  coefficient_within : (k : ℕ) → k < 2 ^ L → c k within largest_coefficient (2 ^ L)
  coefficient_within k h =
      within_le (coefficient_size B (c k) (exact_dct (2 ^ L) x k) (lit< tt) (coefficient_near k h) (exact_within k)) (omega arith)

  value_within : (n : ℕ) → n < 2 ^ L → v n -ℤ x n within error (2 ^ L) / (2 ^ L * B)
  value_within n h =
      coefficient_size (2 ^ L * B) (v n -ℤ x n) (exact_inverse (2 ^ L) c n -ℤ x n *ℤ (int (2 ^ L) *ℤ int B)) (omega arith)
      (within_eq (moved (v n) (x n) (exact_inverse (2 ^ L) c n) (2 ^ L) B) (value_near (2 ^ L) c n (omega arith) coefficient_within))
      (inverse_of_near L x c n a.level_ok h sample_within coefficient_near)
    where
      moved : (v x s : ℤ) (n b : ℕ) → v *ℤ int (n * b) -ℤ s ≡ (v -ℤ x) *ℤ int (n * b) -ℤ (s -ℤ x *ℤ (int n *ℤ int b))
      moved v x s n b = rw (parts v, parts x, parts s) (simp diff (omega near))

pub round_trip : (L : ℕ) (x : Samples) → AcceptedBlock L x → RoundTrip L x
round_trip L x a = record {
  stored = λ k h. within_size (coefficient_within a k h);
  back = λ n h. omega (arith, within_size (value_within a n h), small L a.level_ok);
}
