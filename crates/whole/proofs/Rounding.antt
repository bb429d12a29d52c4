-- The laws of rounding. Error limits cite `nearest_near` and what follows from it, `half_near` and `round_near`; sizes cite `nearest_size`;
-- `round_nearest` is what the tie rule says, and `rest_of_rounding`, `rest_size_lem` what follows for the rest.
-- Assumes nothing.
use mathlib.Core.Path.{◌≡◌, refl, sym, ◌∙◌, ap}
use Prim.Native.Nat.{ℕ, ◌+◌, ◌-◌, ◌*◌, ◌^◌, ◌<◌, ◌≤◌}
use native.Mathlib.Nat.{mul-le-mul}
use native.Mathlib.Omega.{arith}
use lib.Dec.{lit<}
use lib.IntN.{ℤ, pos, nat_abs, neg_ℤ, ◌+ℤ◌, ◌-ℤ◌, ◌*ℤ◌}
use lib.Signed.{shr_z, ◌≤ℤ◌, ◌<ℤ◌}
use Rattle.whole.specs.Round.{nearest, round, rest, rest_size, RoundsToNearest, RestOfRounding, KnownRounds}
use Rattle.whole.proofs.Difference.{int, parts, diff}
use Rattle.whole.proofs.Order.{le-⊖, lt-⊖}
use Rattle.whole.proofs.Size.{near, ◌within◌, size_within, within_size, within_int, within_eq, within_le, within_neg}
use Rattle.whole.proofs.Size.{within_add, within_mul, within_cancel, size_mul, size_int}
use Rattle.whole.proofs.Floor.{floor_one, NearestMultiple, nearest_floor, nearest_only, nearest_within, nearest_quotient}

-- ---- the ties nearest to zero, computed
pub known_rounds : KnownRounds
unfolding nearest round
known_rounds = record { tie = refl; below = refl; negative_tie = refl; negative_below = refl }

-- ---- the tie rule
multiple : (v : ℤ) (m : ℕ) → 0 < m → NearestMultiple m v (nearest v m)
unfolding nearest int
multiple v m l = nearest_floor m v l

pub round_nearest : (v : ℤ) (m : ℕ) → 0 < m → RoundsToNearest v m
unfolding int
round_nearest v m l = record {
  is_nearest = record { low = (multiple v m l).low; high = (multiple v m l).high };
  only = λ q n. nearest_only m v q (nearest v m) (record { low = n.low; high = n.high }) (multiple v m l);
}

-- ---- as code makes it: h added before the floor division by m = 2 h; for m = 2 h d in two steps, with the floor of v / d
pub by_quotient : (v : ℤ) (h d m : ℕ) → m ≡ 2 * h * d → 0 < h → 0 < d → shr_z (shr_z v d +ℤ int h) (2 * h) ≡ nearest v m
by_quotient v h d m e l k = nearest_only m v _ _ (nearest_quotient m v h d e l k) (multiple v m (omega (arith, e, mul-le-mul l k)))

pub by_half : (v : ℤ) (h m : ℕ) → m ≡ 2 * h → 0 < h → shr_z (v +ℤ int h) m ≡ nearest v m
by_half v h m e l =
    ap (λ z. shr_z (z +ℤ int h) m) (sym (floor_one v)) ∙ ap (shr_z (shr_z v 1 +ℤ int h)) e
    ∙ by_quotient v h 1 m (omega (arith, e)) l (lit< tt)

-- ---- a multiple of m is not changed
pub nearest_exact : (q : ℤ) (m : ℕ) → 0 < m → nearest (q *ℤ int m) m ≡ q
nearest_exact q m l = sym (nearest_only m (q *ℤ int m) q _ exact (multiple (q *ℤ int m) m l))
  where
    exact : NearestMultiple m (q *ℤ int m) q
    exact = record { low = rw (parts q) (simp diff (omega near)); high = rw (parts q) (simp diff (omega near)) }

-- ---- 2 |q m - v| ≤ m, for q = v / m rounded
pub nearest_near : (v : ℤ) (m : ℕ) → 0 < m → int 2 *ℤ (nearest v m *ℤ int m -ℤ v) within m
nearest_near v m l = nearest_within m v (nearest v m) (multiple v m l)

pub half_near : (v : ℤ) (h : ℕ) → 0 < h → nearest v (2 * h) *ℤ int (2 * h) -ℤ v within h
half_near v h l = within_cancel 2 (lit< tt) (nearest_near v (2 * h) (omega arith))

-- v / m is at most M in size, and so is the whole number nearest to it
pub nearest_size : (v : ℤ) (m : ℕ) {M : ℕ} → 0 < m → v within M * m → nearest v m within M
nearest_size v m {M} l h =
    halved (nearest v m)
    (within_cancel m l
    (within_le (within_eq (joined (nearest v m) (int m) v) (within_add (nearest_near v m l) (within_mul (within_int 2) h))) (omega arith)))
  where
    joined : (q m v : ℤ) → int 2 *ℤ (q *ℤ m -ℤ v) +ℤ int 2 *ℤ v ≡ m *ℤ (int 2 *ℤ q)
    joined q m v = rw (parts q, parts m, parts v) (simp diff (omega near))

    halved : (q : ℤ) → int 2 *ℤ q within 2 * M + 1 → q within M
    halved q g = size_within q (omega (arith, rw (size_mul, size_int) at (within_size g)))

-- 2 |round v 2^30 - v| ≤ 2^30
pub round_near : (v : ℤ) → 2 * nat_abs (round v *ℤ pos (2 ^ 30) -ℤ v) ≤ 2 ^ 30
unfolding int round
round_near v = rw (size_mul, size_int 2) at (within_size (nearest_near v (2 ^ 30) (lit< tt)))

-- ---- the rest
joined_rest : (m q v : ℤ) → v ≡ m *ℤ q +ℤ (v -ℤ m *ℤ q)
joined_rest m q v = rw (parts m, parts q, parts v) (simp diff (omega near))

-- the multiple of 2^30 is what the rest leaves
pub rounded_multiple : (v : ℤ) → v -ℤ rest v ≡ int (2 ^ 30) *ℤ round v
unfolding int rest
rounded_multiple v = less (int (2 ^ 30)) (round v) v
  where
    less : (m q v : ℤ) → v -ℤ (v -ℤ m *ℤ q) ≡ m *ℤ q
    less m q v = rw (parts m, parts q, parts v) (simp diff (omega near))

-- from twice a number to the number
halves : (h : ℕ) (r : ℤ) → neg_ℤ (int (2 * h)) ≤ℤ (int 2 *ℤ r) → (int 2 *ℤ r) <ℤ int (2 * h) → (neg_ℤ (int h) ≤ℤ r) × (r ≤ℤ int (h - 1))
halves h r low high =
    let l = le-⊖ _ _ _ _ (simp diff at (rw (parts r) at low)) in
    let u = lt-⊖ _ _ _ _ (simp diff at (rw (parts r) at high)) in
    (rw (parts r) (simp diff (omega near)), rw (parts r) (simp diff (omega near)))

pub rest_of_rounding : (v : ℤ) → RestOfRounding v
unfolding int round rest
rest_of_rounding v =
    let n = multiple v (2 ^ 30) (lit< tt) in
    let halved = halves (2 ^ 29) (rest v) n.low n.high in
    record { low = halved.0; high = halved.1; determine = joined_rest (int (2 ^ 30)) (round v) v }

pub rest_within : (v : ℤ) → rest v within 2 ^ 29
unfolding int round rest
rest_within v = within_eq (turned (round v) (int (2 ^ 30)) v) (within_neg (half_near v (2 ^ 29) (lit< tt)))
  where
    turned : (q m v : ℤ) → neg_ℤ (q *ℤ m -ℤ v) ≡ v -ℤ m *ℤ q
    turned q m v = rw (parts q, parts m, parts v) (simp diff (omega near))

-- its size, without sign, is at most 2^29
pub rest_size_lem : (v : ℤ) → rest_size v ≤ 2 ^ 29
rest_size_lem v = within_size (rest_within v)
