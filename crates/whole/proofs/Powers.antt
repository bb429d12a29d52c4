-- Powers of two. (`native.Mathlib.Nat` has `pow-suc`, `pow-succ'` and the order.)
-- Assumes nothing.
use Prim.Native.Nat.{ℕ, ◌^◌, ◌<◌}
use native.Mathlib.Nat.{one-le-pow}
use lib.Dec.{lit<}

pub pow_pos : (L : ℕ) → 0 < 2 ^ L
pow_pos L = one-le-pow L 2 (lit< tt)
