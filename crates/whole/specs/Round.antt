-- Document 01, "The transforms": rounding. Document 02, (v), "What rounding threw away": its rest.
use Rattle.std.specs.Prelude.{◌≡◌, ℕ, ◌+◌, ◌-◌, ◌*◌, ◌^◌, ℤ, pos, neg_ℤ, nat_abs, ◌+ℤ◌, ◌-ℤ◌, ◌*ℤ◌, ◌≤ℤ◌, ◌<ℤ◌}
use Rattle.std.specs.Int.Signed.{shr_z}

-- v / m rounded to the nearest whole number, "a tie going to the larger": the floor of v / m + 1/2, which is (2 v + m) / 2 m.
-- (`shr_z a m` is a / m rounded toward minus infinity.)
unfoldable pub nearest : ℤ → ℕ → ℤ
nearest v m = shr_z (pos 2 *ℤ v +ℤ pos m) (2 * m)

-- "the nearest multiple of 2^30, a tie going to the larger, then divided by 2^30. Negative numbers follow the same rule"
unfoldable pub round : ℤ → ℤ
round v = nearest v (2 ^ 30)

-- "Rounding now gives the rounded number and its rest: the unrounded expression minus 2^30 times the rounded number."
unfoldable pub rest : ℤ → ℤ
rest v = v -ℤ pos (2 ^ 30) *ℤ round v

-- its size, "without sign"
abbrev pub rest_size : ℤ → ℕ
rest_size v = nat_abs (rest v)

-- q · m is the multiple of m nearest to v, a tie going to the larger: -m/2 ≤ v - q · m < m/2
pub record Nearest (v : ℤ) (m : ℕ) (q : ℤ) : Type 0 where
  pub low : neg_ℤ (pos m) ≤ℤ (pos 2 *ℤ (v -ℤ pos m *ℤ q))
  pub high : (pos 2 *ℤ (v -ℤ pos m *ℤ q)) <ℤ pos m

-- what is proved of `nearest` in proofs/Rounding, for every v and every m from 1: it gives the nearest multiple, and no other number does
pub record RoundsToNearest (v : ℤ) (m : ℕ) : Type 0 where
  pub is_nearest : Nearest v m (nearest v m)
  pub only : (q : ℤ) → Nearest v m q → q ≡ nearest v m

-- what is proved of `rest` in proofs/Rounding, for every v: it is from -2^29 to 2^29 - 1, and the rounded number and the rest determine the
-- unrounded expression
pub record RestOfRounding (v : ℤ) : Type 0 where
  pub low : neg_ℤ (pos (2 ^ 29)) ≤ℤ rest v
  pub high : rest v ≤ℤ pos (2 ^ 29 - 1)
  pub determine : v ≡ pos (2 ^ 30) *ℤ round v +ℤ rest v

-- "exact around zero and at ties": the two ties nearest to zero and the numbers just below them
pub record KnownRounds : Type 0 where
  pub tie : round (pos (2 ^ 29)) ≡ pos 1
  pub below : round (pos (2 ^ 29 - 1)) ≡ pos 0
  pub negative_tie : round (neg_ℤ (pos (2 ^ 29))) ≡ pos 0
  pub negative_below : round (neg_ℤ (pos (2 ^ 29 + 1))) ≡ neg_ℤ (pos 1)
