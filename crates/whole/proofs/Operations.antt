-- Signed machine words: a number that is not negative, and an operation on two words of 64 bits, what it asks and what it makes together.
-- Assumes nothing.
use mathlib.Core.Path.{◌≡◌}
use Prim.Native.Nat.{ℕ, ◌^◌, ◌<◌}
use lib.IntN.{ℤ}
use mir.Syntax.{Width, w64}
use mir.Val.{SFits, hbits, to_z, of_z}
use Rattle.whole.proofs.Difference.{int}
use Rattle.whole.proofs.Size.{within_int, within_fits}
use Rattle.whole.proofs.Words as Words
use Rattle.whole.proofs.Words.{Word}

-- a literal, or a number that was cast to a signed word
pub natural : {w : Width} {n : ℕ} → n < 2 ^ hbits w → Word w n (int n)
unfolding int
natural {n = n} l = Words.word (within_fits (within_int n) l)

-- the bits p and q hold x and y
pub record Computes (op : ℤ → ℤ → ℤ) (p q : ℕ) (x y : ℤ) : Type 0 where
  pub asked : SFits w64 (op (to_z w64 p) (to_z w64 q))
  pub made : to_z w64 (of_z w64 (op (to_z w64 p) (to_z w64 q))) ≡ op x y

pub computes : (op : ℤ → ℤ → ℤ) {p q : ℕ} {x y : ℤ} → Word w64 p x → Word w64 q y → SFits w64 (op x y) → Computes op p q x y
computes op a b f = record { asked = Words.asked op a b f; made = (Words.made op a b f).is }
