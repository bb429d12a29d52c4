-- `whole::round` meets its contract: v and the half fit a word together, and the shift is the floor division (`by_half`); 2^30 times the
-- rounded number fits with v, from which it is not far.
use Rattle.std.proofs.Common.{◌≡◌, ◌≤◌, ◌^◌, w64, ℤ, nat_abs, ◌+ℤ◌, ◌-ℤ◌, ◌*ℤ◌, FitsSigned, to_z, of_z, arith}
use Rattle.std.proofs.lemmas.Int.{to_z-of_z}
use lib.Dec.{lit<}
use Rattle.std.specs.Int.Signed.{shr_z}
use Rattle.whole.specs.Round.{round, rest}
use Rattle.whole.proofs.Difference.{int}
use Rattle.whole.proofs.Size.{size_within, within_add, within_sub, within_eq, within_int, within_fits}
use Rattle.whole.proofs.Rounding.{by_half, rounded_multiple, rest_within, nearest_size}
use Rattle.whole.proofs.round.Goals as goal

-- a number that fits, written and read
abbrev kept : ℤ → ℤ
kept x = to_z w64 (of_z w64 x)

-- the half, as the code has it
abbrev half : ℤ
half = int 536870912

module _ (v : ℤ) (f : FitsSigned w64 v) (h : nat_abs v ≤ 2 ^ 62) where
  sum_fits : FitsSigned w64 (v +ℤ half)
  sum_fits = within_fits (within_add (size_within v h) (within_int 536870912)) (lit< tt)

  round_fits : FitsSigned w64 (round v)
  unfolding round
  round_fits = within_fits (nearest_size v (2 ^ 30) {M = 2 ^ 32} (lit< tt) (size_within v h)) (lit< tt)

  multiple_fits : FitsSigned w64 (int (2 ^ 30) *ℤ round v)
  multiple_fits = within_fits (within_eq (rounded_multiple v) (within_sub (size_within v h) (rest_within v))) (lit< tt)

  value : kept (shr_z (kept (kept v +ℤ half)) (2 ^ 30)) ≡ round v
  unfolding round
  value = rw (to_z-of_z w64 _ f, to_z-of_z w64 _ sum_fits, by_half v 536870912 (2 ^ 30) (omega arith) (omega arith))
      (to_z-of_z w64 _ round_fits)

  rest_fits : FitsSigned w64 (v -ℤ int (2 ^ 30) *ℤ round v)
  unfolding int rest
  rest_fits = within_fits (rest_within v) (lit< tt)

  left : kept (kept v -ℤ kept (int (2 ^ 30) *ℤ kept (shr_z (kept (kept v +ℤ half)) (2 ^ 30)))) ≡ rest v
  unfolding int rest
  left = rw (value, to_z-of_z w64 _ multiple_fits, to_z-of_z w64 _ f) (to_z-of_z w64 _ rest_fits)

pub returns : goal.returns
unfolding int
returns c = (value c.args.v c.ranges.v c.requires, left c.args.v c.ranges.v c.requires)
