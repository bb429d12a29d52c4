-- `signed`: back from a signed number to its bits, and from these to the number, so that no two numbers read alike.
-- Assumes nothing.
use mathlib.Core.Path.{◌≡◌, sym, ap, ◌∙◌}
use Prim.Native.Nat.{ℕ, ◌^◌, ◌<◌}
use native.Mathlib.Omega.{arith}
use lib.IntN.{ℤ, pos, negsuc, nat_abs}
use Rattle.std.proofs.lemmas.Bool.Decides.{nat_tests}
use Rattle.little_endian.specs.Numbers.{signed, bits}

-- ---- back from a signed number to the bits that it was read from, and from these to the number
bits_signed : (n : ℕ) → n < 2 ^ 32 → bits (signed n) ≡ n
unfolding signed
bits_signed n l = grind (arith, nat_tests)

pub signed_once : {m n : ℕ} → m < 2 ^ 32 → n < 2 ^ 32 → signed m ≡ signed n → m ≡ n
signed_once h l e = sym (bits_signed _ h) ∙ ap bits e ∙ bits_signed _ l

pub bits_fit : (x : ℤ) → nat_abs x < 2 ^ 31 → bits x < 2 ^ 32
bits_fit (pos n) h = omega arith
bits_fit (negsuc n) h = omega arith

pub signed_bits : (x : ℤ) → nat_abs x < 2 ^ 31 → signed (bits x) ≡ x
unfolding signed
signed_bits (pos n) h = grind (arith, nat_tests)
signed_bits (negsuc n) h = grind (arith, nat_tests)
