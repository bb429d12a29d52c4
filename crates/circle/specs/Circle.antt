-- Document 01, "The cosine circle". The circle has 4,096 places; place j stands for the angle 2πj/4096.
-- "All rules are in whole numbers; roots and quotients are rounded toward minus infinity": `shr_z a m` is a / m rounded so.
use Rattle.std.specs.Prelude.{cond, List, ◌≡◌, ℕ, zero, suc, ◌+◌, ◌-◌, ◌*◌, ◌/◌, ◌%◌, ◌^◌, ◌≤◌, leb, ltb}
use Rattle.std.specs.Prelude.{ℤ, pos, neg_ℤ, ◌+ℤ◌, ◌-ℤ◌, ◌*ℤ◌, get_or}
use Rattle.std.specs.Int.Signed.{shr_z}

-- "Let B = 2^80"
abbrev pub B : ℕ
B = 2 ^ 80

-- the root of v, rounded down, for v below 4 ^ digits: the root of v / 4 has one binary digit less
unfoldable pub root_of : ℕ → ℕ → ℕ
root_of zero v = 0
root_of (suc digits) v =
    let r = 2 * root_of digits (v / 4) in
    cond (leb ((r + 1) * (r + 1)) v) (r + 1) r

-- every number that is halved below is under 4 ^ 81
abbrev pub root : ℕ → ℕ
root v = root_of 81 v

-- "From the pair (0, B), halve ten times: (c, s) becomes (root of B(B + c)/2, root of B(B − c)/2), the half taken before
-- the root, both from the old c."
unfoldable pub halved : ℕ → ℕ × ℕ
halved zero = (0, B)
halved (suc times) =
    let c = (halved times).0 in
    (root (B * (B + c) / 2), root (B * (B - c) / 2))

-- a point of the circle with radius B: the cosine and the sine of its place, times B
pub record Point : Type 0 where
  pub c : ℤ
  pub s : ℤ

-- "The last pair is the unit step."
unfoldable pub unit_step : Point
unit_step = record { c = pos (halved 10).0; s = pos (halved 10).1 }

-- "the new pair is (c·c1 − s·s1)/B and (s·c1 + c·s1)/B, where (c1, s1) is the unit step"
unfoldable pub step : Point → Point → Point
step one old =
    record {
      c = shr_z (old.c *ℤ one.c -ℤ old.s *ℤ one.s) B;
      s = shr_z (old.s *ℤ one.c +ℤ old.c *ℤ one.s) B;
    }

-- "From (B, 0), step j times"
unfoldable pub stepped : ℕ → Point
stepped zero = record { c = pos B; s = pos 0 }
stepped (suc j) = step unit_step (stepped j)

-- "K(j) is the c reached, for j = 0 .. 1,023, and K(1024) is 0."
unfoldable pub first_quarter : ℕ → ℤ
first_quarter j = cond (ltb j 1024) (stepped j).c (pos 0)

-- "For the other places K(2048 − j) = −K(j) ..": a wave that is given on the first quarter, at the places 0 .. 2,048
unfoldable pub on_half : (ℕ → ℤ) → ℕ → ℤ
on_half quarter j = cond (leb j 1024) (quarter j) (neg_ℤ (quarter (2048 - j)))

-- ".. and K(4096 − j) = K(j). Places are taken modulo 4,096.": the same wave at every place
unfoldable pub on_circle : (ℕ → ℤ) → ℕ → ℤ
on_circle quarter place =
    let j = place % 4096 in
    cond (leb j 2048) (on_half quarter j) (on_half quarter (4096 - j))

unfoldable pub K : ℕ → ℤ
K place = on_circle first_quarter place

-- the sine's place is p − 1,024: modulo 4,096 that is p + 3,072 (p - 1024 on natural numbers would stop at 0)
abbrev pub sine_at : ℕ → ℤ
sine_at place = K (place + 3072)

-- "The stored quarter wave T has 1,025 entries: T(j) = (K(j) + 2^49)/2^50, rounded down."
unfoldable pub T : ℕ → ℤ
T j = shr_z (K j +ℤ pos (2 ^ 49)) (2 ^ 50)

-- a list of words that holds the quarter wave
abbrev pub IsQuarterWave : List ℤ → Type 0
IsQuarterWave words = (j : ℕ) → j ≤ 1024 → get_or words j (pos 0) ≡ T j
