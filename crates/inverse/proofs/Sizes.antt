-- The sizes of the inverse DCT: its sums before the division, and its values, which fit 32 bits.
-- Assumes nothing.
use mathlib.Core.Bool.{true}
use mathlib.Core.Path.{◌≡◌}
use Prim.Native.Nat.{ℕ, ◌+◌, ◌-◌, ◌*◌, ◌^◌, ◌≤◌, ◌<◌}
use native.Mathlib.Omega.{arith}
use lib.IntN.{ℤ, nat_abs}
use Rattle.whole.proofs.Difference.{int}
use Rattle.whole.proofs.Rounding.{nearest_size}
use Rattle.whole.proofs.Size.{◌within◌, size_within, within_int, within_le, within_mul, within_fits}
use Rattle.lengths.specs.Block.{is_length}
use Rattle.lengths.proofs.ElevenLengths.{length_le, length_pos}
use Rattle.ffct.proofs.Orthogonality.{twice_within}
use Rattle.inverse.specs.Inverse.{inverse_sum, inverse_dct, largest_coefficient}
use Rattle.inverse.specs.Laws.{ValuesFit}
use Rattle.inverse.proofs.Waves.{wave_small}

sum_size : (N : ℕ) (c : ℕ → ℤ) (n : ℕ) {C : ℕ} → 0 < N → ((k : ℕ) → k < N → c k within C) →
    inverse_sum N c n within (2 * N - 1) * (C * 2 ^ 30)
unfolding inverse_sum int
sum_size N c n l h =
    twice_within N _ _ l (within_mul (h 0 l) (within_int (2 ^ 30))) (λ i k. within_mul (h (i + 1) (omega arith)) (wave_small _))

values_within : (N : ℕ) (c : ℕ → ℤ) → is_length N ≡ true → ((k : ℕ) → k < N → nat_abs (c k) ≤ largest_coefficient N) → (n : ℕ)
    → inverse_dct N c n within (2 * N - 1) * 1000001
unfolding inverse_dct
values_within N c e h n =
    let l = length_pos N e in
    nearest_size (inverse_sum N c n) (N * 2 ^ 30) (omega arith)
    (within_le (sum_size N c n l (λ k i. size_within (c k) (h k i))) (omega arith))

pub values_fit : (N : ℕ) (c : ℕ → ℤ) → is_length N ≡ true → ((k : ℕ) → k < N → nat_abs (c k) ≤ largest_coefficient N) → ValuesFit N c
values_fit N c e h n i = within_fits (values_within N c e h n) (omega (arith, length_le N e))
