-- The joins of (12) and (15), from the coefficients E of the even samples and D of the DCT: coefficient by coefficient, and what a turn
-- of their loops reads.
-- Assumes nothing.
use mathlib.Core.Path.{◌≡◌, refl}
use mathlib.Core.List.{List}
use Prim.Native.Nat.{ℕ, ◌+◌, ◌-◌, ◌*◌, ◌/◌, ◌≤◌, ◌<◌}
use native.Mathlib.Omega.{arith}
use lib.IntN.{ℤ, pos, neg_ℤ, nat_abs, ◌+ℤ◌, ◌-ℤ◌, +ℤ_idl, +ℤ_idr, +ℤ_comm}
use Rattle.lengths.specs.Block.{largest_sum}
use Rattle.words.proofs.Writing.{Ends}
use Rattle.ffct.specs.Transforms.{apart}
use Rattle.ffct.proofs.Steps.{cosine_low, cosine_high, sine_low, sine_high, dct_low, dct_middle, dct_high}
use Rattle.counts.specs.declared.tally.Tally.{Tally}
use Rattle.transforms.specs.Steps.{even_at, odd_at, cosine_join, sine_join, JoinReady}

module _ (n : ℕ) (q : 4 * (n / 4) ≡ n) (E D : ℕ → ℤ) where
  -- ---- (12)
  pub cosine_front : (k : ℕ) → k < n / 4 → E k +ℤ D k ≡ cosine_join n E D k
  cosine_front k h = rw (cosine_low (n / 2) E k (omega arith), dct_low (n / 4) D k h)

  pub cosine_back : (k : ℕ) → k < n / 4 → E k -ℤ D k ≡ cosine_join n E D (n / 2 - k)
  cosine_back k h =
      let e : n / 2 - (n / 2 - k) ≡ k = omega arith in
      let d : 2 * (n / 4) - (n / 2 - k) ≡ k = omega arith in
      rw (cosine_high (n / 2) E (n / 2 - k) (omega arith), dct_high (n / 4) D (n / 2 - k) (omega arith), e, d)

  pub cosine_middle : E (n / 4) ≡ cosine_join n E D (n / 4)
  cosine_middle = rw (cosine_low (n / 2) E (n / 4) (omega arith), dct_middle (n / 4) D (n / 4) refl, +ℤ_idr)

  -- ---- (15)
  pub sine_first : E 0 ≡ sine_join n E D 0
  unfolding apart
  sine_first = rw (sine_low (n / 2) E 0 (omega arith), dct_middle (n / 4) D (apart (n / 4) 0) (omega arith), +ℤ_idr)

  pub sine_front : (k : ℕ) → 1 ≤ k → k < n / 4 → E k +ℤ D (n / 4 - k) ≡ sine_join n E D k
  unfolding apart
  sine_front k l h =
      let d : n / 4 - k + (k - n / 4) ≡ n / 4 - k = omega arith in
      rw (d, sine_low (n / 2) E k (omega arith), dct_low (n / 4) D (n / 4 - k) (omega arith))

  pub sine_back : (k : ℕ) → 1 ≤ k → k < n / 4 → D (n / 4 - k) -ℤ E k ≡ sine_join n E D (n / 2 - k)
  unfolding apart
  sine_back k l h =
      let e : n / 2 - (n / 2 - k) ≡ k = omega arith in
      let d : n / 4 - (n / 2 - k) + (n / 2 - k - n / 4) ≡ n / 4 - k = omega arith in
      rw (d, sine_high (n / 2) E (n / 2 - k) (omega arith), e, dct_low (n / 4) D (n / 4 - k) (omega arith))
      (+ℤ_comm (D (n / 4 - k)) (neg_ℤ (E k)))

  pub sine_middle : E (n / 4) ≡ pos 0 → 4 ≤ n → D 0 ≡ sine_join n E D (n / 4)
  unfolding apart
  sine_middle none h =
      let d : n / 4 - n / 4 + (n / 4 - n / 4) ≡ 0 = omega arith in
      rw (d, sine_low (n / 2) E (n / 4) (omega arith), dct_low (n / 4) D 0 (omega arith), none, +ℤ_idl)

  pub sine_last : E 0 ≡ pos 0 → 4 ≤ n → pos 0 ≡ sine_join n E D (n / 2)
  unfolding apart
  sine_last none h =
      let e : n / 2 - n / 2 ≡ 0 = omega arith in
      rw (sine_high (n / 2) E (n / 2) (omega arith), e, none, dct_middle (n / 4) D (n / 4 - n / 2 + (n / 2 - n / 4)) (omega arith))

-- E(i) and D(j) as a turn reads them from `after`: they are as they were, and small
pub record JoinTurn (n at i j : ℕ) (before after : List ℤ) : Type 0 where
  pub even_is : even_at at after i ≡ even_at at before i
  pub odd_is : odd_at n at after j ≡ odd_at n at before j
  pub even_small : nat_abs (even_at at after i) ≤ 2 * largest_sum
  pub odd_small : nat_abs (odd_at n at after j) ≤ 2 * largest_sum

pub join_turn : {sums n at a c m : ℕ} {f : ℕ → ℤ} {before after : List ℤ} {spent : Tally} → JoinReady sums n at before spent
    → Ends (pos 0) at a c m f before after → (i j : ℕ) → (a ≤ i) × (i + c < m) × (m ≤ n / 2 + 1) × (i < n / 4) × (j < n / 4)
    → JoinTurn n at i j before after
join_turn {n = n} {at} r run i j h =
    let e = run.between i h.0 h.1 in
    let d = run.high (at + n / 2 + 1 + j) (omega arith) in
    record { even_is = e; odd_is = d; even_small = rw e (r.even_small i (omega arith)); odd_small = rw d (r.odd_small j h.4) }
