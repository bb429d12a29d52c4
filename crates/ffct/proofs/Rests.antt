-- The largest rest that the recursion carries: at most 2^29 for every block, and 0 where nothing is rounded.
-- Assumes nothing.
use mathlib.Core.Path.{◌≡◌, refl}
use Prim.Native.Nat.{ℕ, zero, suc, ◌*◌, ◌-◌, ◌^◌, ◌<◌, ◌≤◌}
use native.Mathlib.Omega.{arith}
use lib.IntN.{ℤ}
use Rattle.whole.proofs.Largest.{largest_least}
use Rattle.whole.proofs.Powers.{pow_pos}
use Rattle.whole.proofs.Rounding.{rest_size_lem}
use Rattle.words.specs.Words.{Samples}
use Rattle.ffct.specs.Transforms.{evens, folded_sums, folded_differences, rearranged, rotation_rest}
use Rattle.ffct.specs.Transforms.{dct_by, cosine_dft, sine_dft, dct, spectrum, pair}
use Rattle.ffct.specs.Limits.{RestLimits}
use Rattle.lengths.proofs.Lengths.{len}
use Rattle.ffct.proofs.Steps.{cosine_rest, sine_rest, dct_rest}

rotation_small : (N : ℕ) (C S : ℕ → ℤ) → rotation_rest N C S ≤ 2 ^ 29
unfolding rotation_rest
rotation_small N C S = largest_least (N - 1) _ (2 ^ 29) (λ i h. rest_size_lem _)

-- of the DFTs of a level, and of its DCT, which is made of them
abbrev DftSmall : ℕ → Type 0
DftSmall L = (x : Samples) → ((cosine_dft L x).largest_rest ≤ 2 ^ 29) × ((sine_dft L x).largest_rest ≤ 2 ^ 29)

dct_small_of : (L : ℕ) → DftSmall L → (x : Samples) → (dct L x).largest_rest ≤ 2 ^ 29
dct_small_of zero H x = unfold dct dct_by in omega arith
dct_small_of (suc L) H x =
    let z = rearranged (2 * len L) x in
    omega (arith, dct_rest L x, H z, rotation_small (2 * len L) (cosine_dft (suc L) z).at (sine_dft (suc L) z).at)

dft_small : (L : ℕ) → DftSmall L
dft_small zero x = unfold cosine_dft in omega arith
dft_small (suc zero) x = unfold cosine_dft in omega arith
dft_small (suc (suc L)) x =
    let even = dft_small (suc L) (evens x) in
    let odd = dct_small_of L (dft_small L) in
    omega (
      arith,
      cosine_rest L x,
      sine_rest L x,
      even,
      odd (folded_sums (4 * len L) x),
      odd (folded_differences (4 * len L) x),
    )

-- of four samples or fewer the DFTs round nothing
dft_none : (L : ℕ) (x : Samples) → 2 ^ L < 8 → ((cosine_dft L x).largest_rest ≡ 0) × ((sine_dft L x).largest_rest ≡ 0)
unfolding cosine_dft dct_by
dft_none zero x h = (refl, refl)
dft_none (suc zero) x h = (refl, refl)
dft_none (suc (suc zero)) x h = (refl, refl)
dft_none (suc (suc (suc L))) x h = absurd (omega (arith, pow_pos L))

pub rest_limits : (L : ℕ) (x : Samples) → RestLimits L x
unfolding spectrum pair
rest_limits L x = record {
  dct_small = dct_small_of L (dft_small L) x;
  spectrum_small = omega (arith, dft_small L x);
  pair_small = λ y. omega (arith, dft_small L x, dft_small L y);
  dct_none = λ e. rw e (unfold dct dct_by in refl);
  spectrum_none = λ h. omega (arith, dft_none L x (omega arith));
  pair_none = λ y h. omega (arith, dft_none L x (omega arith), dft_none L y (omega arith));
}
