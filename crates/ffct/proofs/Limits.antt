-- Demand 3 for every accepted block of every one of the eleven lengths.
-- Assumes nothing.
use mathlib.Core.Path.{◌≡◌}
use Prim.Native.Nat.{ℕ, zero, suc, ◌+◌, ◌*◌, ◌<◌, ◌≤◌}
use native.Mathlib.Nat.{le_trans, mul-le-mul_left}
use native.Mathlib.Omega.{arith}
use lib.Dec.{T, leb, leb→le}
use lib.IntN.{ℤ}
use Rattle.whole.proofs.Cases.{both, below, below_at}
use Rattle.whole.proofs.Difference.{int}
use Rattle.whole.proofs.Size.{size_within, within_size}
use Rattle.circle.specs.Circle.{B}
use Rattle.words.specs.Words.{Samples}
use Rattle.lengths.specs.Block.{top_level, largest_sample, AcceptedBlock}
use Rattle.ffct.specs.Exact.{Limit, eighth, quarter_of_next, quarter, Within}
use Rattle.ffct.specs.Transforms.{cosine_beyond, sine_beyond, cosine_dft, sine_dft, spectrum, pair}
use Rattle.ffct.specs.Limits.{Limits, PairLimits}
use Rattle.lengths.proofs.Lengths.{len, pow_len, per, len_per}
use Rattle.ffct.proofs.Steps.{cosine_low, sine_low}
use Rattle.ffct.proofs.Sums.{cos_sum, sin_sum, cos_exact, sin_exact, dct_exact, real_exact, imaginary_exact}
use Rattle.ffct.proofs.Near.{Near, Bounded, near_neg, near_add, cosine_beyond_lem, sine_beyond_lem}
use Rattle.ffct.proofs.Near.{dct_error, dft_error, BothNear, dft_near, dct_near}

-- an error e is below a limit
abbrev under : Limit → ℕ → Type 0
under limit e = limit.under * e ≤ limit.over * B

near_within : (limit : Limit) {y E : ℤ} {e : ℕ} → Near y E e → under limit e → Within limit y E
unfolding int
near_within limit h l = record { near = le_trans (mul-le-mul_left limit.under (within_size h.gap)) l }

-- ---- the errors of the eleven lengths against the limits: three times eleven comparisons that the checker computes
small : (limit : ℕ → Limit) (error : ℕ → ℕ) → T (below 11 (λ L. leb ((limit (len L)).under * error L) ((limit (len L)).over * B))) →
    (L : ℕ) → L ≤ top_level → under (limit (len L)) (error L)
small limit error t L h = leb→le _ _ (below_at 11 (λ L. leb ((limit (len L)).under * error L) ((limit (len L)).over * B)) t L (omega arith))

dft_small : (L : ℕ) → L ≤ top_level → under (eighth (len L)) (dft_error L largest_sample)
unfolding both below dft_error dct_error
dft_small = small eighth (λ L. dft_error L largest_sample) tt

dct_small : (L : ℕ) → L ≤ top_level → under (quarter_of_next (len L)) (dct_error L largest_sample (dft_error L largest_sample))
unfolding both below dft_error dct_error
dct_small = small quarter_of_next (λ L. dct_error L largest_sample (dft_error L largest_sample)) tt

pair_small : (L : ℕ) → L ≤ top_level → under (quarter (len L)) (dft_error L largest_sample + dft_error L largest_sample)
unfolding both below dft_error dct_error
pair_small = small quarter (λ L. dft_error L largest_sample + dft_error L largest_sample) tt

-- ---- an accepted block
bounded : (L : ℕ) (x : Samples) → AcceptedBlock L x → Bounded (len L) x largest_sample
bounded L x a i h = size_within (x i) (a.range i (omega (arith, pow_len L)))

pub limits : (L : ℕ) (x : Samples) → AcceptedBlock L x → Limits L x
limits L x a = record {
  cosine = λ k h. rw (pow_len L, cos_exact (per L) (len L) x k w)
      (near_within (eighth (len L)) (dft k (omega (arith, pow_len L))).0 (dft_small L a.level_ok));
  sine = λ k h. rw (pow_len L, sin_exact (per L) (len L) x k w)
      (near_within (eighth (len L)) (dft k (omega (arith, pow_len L))).1 (dft_small L a.level_ok));
  dct = λ k h.
      let near = dct_near L (per L) x largest_sample w (bounded L x a) k (omega (arith, pow_len L)) in
      rw (pow_len L, dct_exact (per L) (len L) x k w) (near_within (quarter_of_next (len L)) near (dct_small L a.level_ok));
}
  where
    w : len L * per L ≡ 1024
    w = len_per L a.level_ok

    dft : (k : ℕ) → 2 * k ≤ len L → BothNear L (per L) x k (dft_error L largest_sample)
    dft = dft_near L (per L) x largest_sample w (bounded L x a)

-- ---- Pair: cosine- and sine-DFT at every k below N, by (9) and (10), and their sum or difference
abbrev BeyondNear : ℕ → ℕ → Samples → ℕ → ℕ → Type 0
BeyondNear L w x k e =
    Near (cosine_beyond (len L) (cosine_dft L x).at k) (cos_sum w (len L) x k) e
    × Near (sine_beyond (len L) (sine_dft L x).at k) (sin_sum w (len L) x k) e

everywhere : (L w : ℕ) (x : Samples) (X : ℕ) → len L * w ≡ 1024 → Bounded (len L) x X
    → (k : ℕ) → k < len L → BeyondNear L w x k (dft_error L X)
everywhere zero w x X q b k h =
    rw (cosine_low 1 (cosine_dft 0 x).at k (omega arith), sine_low 1 (sine_dft 0 x).at k (omega arith))
    (dft_near 0 w x X q b k (omega arith))
everywhere (suc L) w x X q b k h = (
  cosine_beyond_lem w (len L) x _ k _ (omega arith) q (λ j l. (dft_near (suc L) w x X q b j (omega arith)).0),
  sine_beyond_lem w (len L) x _ k _ (omega arith) q (λ j l. (dft_near (suc L) w x X q b j (omega arith)).1),
)

pub pair_limits : (L : ℕ) (a b : Samples) → AcceptedBlock L a → AcceptedBlock L b → PairLimits L a b
unfolding pair spectrum
pair_limits L a b okA okB = record {
  real = λ k h.
      let sum = near_add (near a okA k (omega (arith, pow_len L))).0 (near b okB k (omega (arith, pow_len L))).1 in
      rw (pow_len L, real_exact (per L) (len L) a b k w) (near_within (quarter (len L)) sum (pair_small L okA.level_ok));
  imaginary = λ k h.
      let difference = near_add (near b okB k (omega (arith, pow_len L))).0 (near_neg (near a okA k (omega (arith, pow_len L))).1) in
      rw (pow_len L, imaginary_exact (per L) (len L) a b k w) (near_within (quarter (len L)) difference (pair_small L okA.level_ok));
}
  where
    w : len L * per L ≡ 1024
    w = len_per L okA.level_ok

    near : (x : Samples) → AcceptedBlock L x → (k : ℕ) → k < len L → BeyondNear L (per L) x k (dft_error L largest_sample)
    near x X = everywhere L (per L) x largest_sample w (bounded L x X)
