-- A coefficient added to a sum that has room.
-- Assumes nothing.
use mathlib.Core.Path.{◌≡◌}
use mathlib.Core.Bool.{true}
use Prim.Native.Nat.{◌^◌}
use lib.IntN.{ℤ, ◌+ℤ◌}
use Rattle.refusals.specs.Refusals.{at_most}
use Rattle.months.specs.Accounts.{plus}

pub plus_is : (s c : ℤ) → at_most (2 ^ 62) s ≡ true → plus s c ≡ s +ℤ c
unfolding plus
plus_is s c e = rw e
