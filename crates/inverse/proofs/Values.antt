-- A value from a sum that is kept in two words: the floor of the quotient by 2^30, then the half of N and the floor of the quotient by N.
-- Assumes nothing.
use mathlib.Core.Path.{◌≡◌, sym, ap, ap₂, subst, ◌∙◌}
use Prim.Native.Nat.{ℕ, ◌+◌, ◌-◌, ◌*◌, ◌/◌, ◌^◌, ◌<◌}
use native.Mathlib.Omega.{arith}
use lib.Count.{count_trailing_zeros}
use lib.Dec.{lit<, lit≤}
use lib.IntN.{ℤ, pos, ◌+ℤ◌, ◌-ℤ◌, ◌*ℤ◌, +ℤ_idr}
use lib.Signed.{shr_z}
use mir.Syntax.{w32, w64}
use mir.Val.{SFits, of_z, to_z}
use Rattle.whole.specs.Round.{nearest}
use Rattle.whole.specs.Sum.{sum as total}
use Rattle.whole.proofs.Difference.{parts, diff, int, ⊖-same}
use Rattle.whole.proofs.Size.{near, ◌within◌, size_within, within_int, within_le, within_mul, within_add, within_sub, within_fits}
use Rattle.whole.proofs.Words.{Word, word, asked, made, shifted, narrows, narrowed, done}
use Rattle.whole.proofs.Operations.{natural}
use Rattle.whole.proofs.Floor.{Floor, floor, floor_only}
use Rattle.whole.proofs.Sums.{sum_cong}
use Rattle.whole.proofs.Rounding.{by_quotient, nearest_exact}
use Rattle.lengths.proofs.ElevenLengths.{length_le, twice_half, is_power, trailing}
use Rattle.inverse.specs.declared.sum.Sum.{Sum}
use Rattle.inverse.specs.Inverse.{T°, inverse_sum, inverse_dct}
use Rattle.inverse.specs.Steps.{held, ValueReady, value_of}
use Rattle.inverse.proofs.Adding.{high_word, low_word}

-- ---- the floor of the quotient by 2^30
abbrev quotient : Sum → ℤ → ℤ
quotient sum c = int 2 *ℤ sum.high -ℤ c +ℤ shr_z sum.low (2 ^ 29)

quotient_floor : (high low c q : ℤ) → Floor low (2 ^ 29) q →
    Floor (int 2 *ℤ (high *ℤ int (2 ^ 30) +ℤ low) -ℤ c *ℤ int (2 ^ 30)) (2 ^ 30) (int 2 *ℤ high -ℤ c +ℤ q)
quotient_floor high low c q f =
    let e = ⊖-same _ _ _ _ (simp diff at (rw (parts low, parts q) at f.split)) in
    let b = f.below in
    record {
      rest = 2 * f.rest;
      below = omega arith;
      split = rw (parts high, parts low, parts c, parts q) (simp diff (omega near));
    }

quotient_is : (sum : Sum) (c : ℤ) → shr_z (pos 2 *ℤ held sum -ℤ c *ℤ pos (2 ^ 30)) (2 ^ 30) ≡ quotient sum c
unfolding int
quotient_is sum c =
    floor_only _ (2 ^ 30) (quotient_floor sum.high sum.low c _ (floor sum.low (2 ^ 29) (lit< tt))) (lit< tt)

low_small : (low : ℤ) → low within 2 ^ 40 → shr_z low (2 ^ 29) within 2 ^ 40
low_small low h = go (shr_z low (2 ^ 29)) (floor low (2 ^ 29) (lit< tt))
  where
    go : (q : ℤ) → Floor low (2 ^ 29) q → q within 2 ^ 40
    go q f =
        let e = ⊖-same _ _ _ _ (simp diff at (rw (parts low, parts q) at f.split)) in
        let b = f.below in
        record { high = omega arith; low = omega arith }

module _ {sum : Sum} {c : ℤ} {n : ℕ} (r : ValueReady sum c n) where
  twice_small : int 2 *ℤ sum.high within 2 ^ 41
  twice_small = within_mul (within_int 2) (size_within sum.high r.size.high_ok)

  less_small : int 2 *ℤ sum.high -ℤ c within 2 ^ 42
  less_small = within_le (within_sub twice_small (size_within c r.c_ok)) (lit≤ tt)

  quotient_small : quotient sum c within 2 ^ 43
  quotient_small = within_le (within_add less_small (low_small sum.low (size_within sum.low r.size.low_ok))) (lit≤ tt)

  even : 2 * (n / 2) ≡ n
  even = twice_half n r.length_ok r.two

  sum_small : quotient sum c +ℤ int (n / 2) within 2 ^ 44
  sum_small = within_le (within_add quotient_small (within_int (n / 2))) (omega (arith, length_le n r.length_ok))

  value_is : shr_z (quotient sum c +ℤ int (n / 2)) n ≡ value_of (held sum) c n
  value_is =
      ap (λ q. shr_z (q +ℤ int (n / 2)) n) (sym (quotient_is sum c))
      ∙ ap (shr_z (shr_z (pos 2 *ℤ held sum -ℤ c *ℤ pos (2 ^ 30)) (2 ^ 30) +ℤ int (n / 2))) (sym even)
      ∙ by_quotient _ (n / 2) (2 ^ 30) (n * 2 ^ 30) (ap (λ m. m * 2 ^ 30) (sym even)) (omega (arith, even, r.two)) (lit< tt)

  -- ---- the words of the code
  -- n is 2 to the power of the number of its trailing zeros
  power : 2 ^ count_trailing_zeros 64 n ≡ n
  power = ap (λ t. 2 ^ t) (trailing _ r.length_ok) ∙ sym (is_power _ r.length_ok)

  abbrev less_bits : ℕ
  less_bits = done ◌-ℤ◌ (done ◌*ℤ◌ 2 (of_z w64 sum.high)) (of_z w64 c)

  abbrev low_bits : ℕ
  low_bits = of_z w64 (shr_z (to_z w64 (of_z w64 sum.low)) (2 ^ 29))

  abbrev sum_bits : ℕ
  sum_bits = done ◌+ℤ◌ (done ◌+ℤ◌ less_bits low_bits) (n / 2)

  half : Word w64 (n / 2) (int (n / 2))
  half = natural (omega (arith, length_le _ r.length_ok))

  low : Word w64 low_bits (shr_z sum.low (2 ^ 29))
  low = shifted _ (low_word r.size (lit< tt))

  less : Word w64 less_bits (int 2 *ℤ sum.high -ℤ c)
  less = made ◌-ℤ◌
      (made ◌*ℤ◌ (natural (lit< tt)) (high_word r.size (lit< tt)) (within_fits twice_small (lit< tt)))
      (word (within_fits (size_within c r.c_ok) (lit< tt))) (within_fits less_small (lit< tt))

  all : Word w64 (done ◌+ℤ◌ less_bits low_bits) (quotient sum c)
  all = made ◌+ℤ◌ less low (within_fits quotient_small (lit< tt))

  result : Word w64 (of_z w64 (shr_z (to_z w64 sum_bits) (2 ^ count_trailing_zeros 64 n))) (value_of (held sum) c n)
  result = subst (λ v. Word w64 (of_z w64 (shr_z (to_z w64 sum_bits) (2 ^ count_trailing_zeros 64 n))) v)
      (ap (shr_z (quotient sum c +ℤ int (n / 2))) power ∙ value_is)
      (shifted _ (made ◌+ℤ◌ all half (within_fits sum_small (lit< tt))))

  -- what they ask, and what they make
  pub quotient_asked : SFits w64 (to_z w64 less_bits +ℤ to_z w64 low_bits)
  quotient_asked = asked ◌+ℤ◌ less low (within_fits quotient_small (lit< tt))

  pub half_asked : SFits w64 (to_z w64 (done ◌+ℤ◌ less_bits low_bits) +ℤ to_z w64 (n / 2))
  half_asked = asked ◌+ℤ◌ all half (within_fits sum_small (lit< tt))

  pub value_narrows : SFits w32 (to_z w64 (of_z w64 (shr_z (to_z w64 sum_bits) (2 ^ count_trailing_zeros 64 n))))
  value_narrows = narrows result r.fits

  pub value_narrowed : to_z w32 (of_z w32 (to_z w64 (of_z w64 (shr_z (to_z w64 sum_bits) (2 ^ count_trailing_zeros 64 n)))))
      ≡ value_of (held sum) c n
  value_narrowed = narrowed result r.fits

-- what the check tries in `value`
pub ruleset value_rounded = (quotient_asked, half_asked, value_narrows, value_narrowed)

-- ---- the value of one coefficient is that coefficient
pub value_one : (c : ℕ → ℤ) → inverse_dct 1 c 0 ≡ c 0
unfolding inverse_dct inverse_sum total int
value_one c = ap (λ v. nearest v (2 ^ 30)) (+ℤ_idr (c 0 *ℤ pos (2 ^ 30))) ∙ nearest_exact (c 0) (2 ^ 30) (lit< tt)

-- ---- a value reads only the N coefficients
pub value_same : (N : ℕ) (c d : ℕ → ℤ) (n : ℕ) → 0 < N → ((k : ℕ) → k < N → c k ≡ d k) → inverse_dct N c n ≡ inverse_dct N d n
unfolding inverse_dct inverse_sum
value_same N c d n l e = ap (λ v. nearest v (N * 2 ^ 30)) (ap₂ (λ a s. a *ℤ pos (2 ^ 30) +ℤ pos 2 *ℤ s) (e 0 l)
    (sum_cong (N - 1) _ _ (λ i h. ap (λ z. z *ℤ T° ((2 * n + 1) * (i + 1) * 1024 / N)) (e (i + 1) (omega arith)))))
