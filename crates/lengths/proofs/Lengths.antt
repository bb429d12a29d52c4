-- Lengths in a form in which omega sees a level's length as twice that of the level below, and the quotients by a length.
-- Assumes nothing.
use mathlib.Core.Path.{◌≡◌, refl, ◌∙◌, ap}
use Prim.Native.Nat.{ℕ, zero, suc, ◌+◌, ◌*◌, ◌-◌, ◌/◌, ◌^◌, ◌≤◌, ◌<◌}
use native.Mathlib.Nat.{pow-succ', mul-div_cancel_left}
use native.Mathlib.Omega.{arith}
use Rattle.lengths.specs.Block.{top_level}

abbrev pub len : ℕ → ℕ
len zero = 1
len (suc L) = 2 * len L

pub pow_len : (L : ℕ) → 2 ^ L ≡ len L
pow_len zero = refl
pow_len (suc L) = pow-succ' 2 L ∙ ap (λ n. 2 * n) (pow_len L)

pub len_pos : (L : ℕ) → 0 < len L
len_pos zero = omega arith
len_pos (suc L) = omega (arith, len_pos L)

-- the level of a length
pub len_injective : (L M : ℕ) → len L ≡ len M → L ≡ M
len_injective zero zero e = refl
len_injective zero (suc M) e = absurd (omega (arith, len_pos M))
len_injective (suc L) zero e = absurd (omega (arith, len_pos L))
len_injective (suc L) (suc M) e = ap suc (len_injective L M (omega arith))

-- 1,024 is a multiple of each length
unfoldable pub per : ℕ → ℕ
per L = len (top_level - L)

product : (L M : ℕ) → len L * len M ≡ len (L + M)
product zero M = omega (arith, ap len {x = 0 + M} {y = M} (omega arith))
product (suc L) M = omega (arith, product L M, ap len {x = suc L + M} {y = suc (L + M)} (omega arith))

pub len_per : (L : ℕ) → L ≤ top_level → len L * per L ≡ 1024
unfolding per
len_per L h = product L (top_level - L) ∙ ap len {x = L + (top_level - L)} {y = top_level} (omega arith)

-- an exact division by a length N, with N w = 1024
pub quotient : (N w q a : ℕ) → N * w ≡ 1024 → a ≡ N * q → a / N ≡ q
quotient zero w q a e h = absurd (omega arith)
quotient (suc N) w q a e h = ap (λ n. n / suc N) h ∙ mul-div_cancel_left q (omega arith)
