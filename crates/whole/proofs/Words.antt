-- Signed machine words. A local of a signed type holds bits, `of_z w x`, and an operation reads them, `to_z w p`: what comes out
-- of an operation whose result fits is the result on the numbers.
-- Assumes nothing.
use mathlib.Core.Path.{◌≡◌, refl, ◌∙◌}
use mathlib.Core.Bool.{true, false, true≢false}
use Prim.Native.Nat.{ℕ, suc, ◌+◌, ◌-◌, ◌^◌, ◌<◌}
use native.Mathlib.Nat.{lt_of_le_of_lt}
use native.Mathlib.Omega.{arith}
use lib.Dec.{T, leb}
use lib.IntN.{ℤ, pos, negsuc, nat_abs, neg_ℤ, ◌-ℤ◌, +ℤ_idl}
use lib.Signed.{shr_z, lt_z, non_neg, mag, mag_shr}
use mir.Syntax.{Width, w32, w64}
use mir.Val.{SFits, hbits, to_z, of_z}
use mir.Facts.{to_z-of_z, sfits_widen}
use borrow.Author.Rules.{sfits_of}
use borrow.Author.Tests.{ltb-true, lt-ltb}

-- the bits p are the number x, which fits
pub record Word (w : Width) (p : ℕ) (x : ℤ) : Type 0 where
  pub is : to_z w p ≡ x
  pub fits : SFits w x

-- what a parameter or a call's result holds
pub word : {w : Width} {x : ℤ} → SFits w x → Word w (of_z w x) x
word f = record { is = to_z-of_z f; fits = f }

-- the same of 64 bits that were read or returned, and are known to be y
pub held : {x y : ℤ} → mag x < 2 ^ 63 → x ≡ y → Word w64 (of_z w64 x) y
held {x} l e = let f : SFits w64 x = sfits_of l in record { is = to_z-of_z f ∙ e; fits = rw e at f }

-- the bits that an operation on 64 bits makes
abbrev pub done : (ℤ → ℤ → ℤ) → ℕ → ℕ → ℕ
done op p q = of_z w64 (op (to_z w64 p) (to_z w64 q))

-- what a sum, a difference or a product asks, and what it gives
module _ {w : Width} (op : ℤ → ℤ → ℤ) {p q : ℕ} {x y : ℤ} (a : Word w p x) (b : Word w q y) (f : SFits w (op x y)) where
  pub asked : SFits w (op (to_z w p) (to_z w q))
  asked = rw (a.is, b.is) f

  pub made : Word w (of_z w (op (to_z w p) (to_z w q))) (op x y)
  made = rw (a.is, b.is) (word f)

-- a negation
module _ {w : Width} {p : ℕ} {x : ℤ} (a : Word w p x) (f : SFits w (neg_ℤ x)) where
  pub negates : SFits w (pos 0 -ℤ to_z w p)
  negates = rw (a.is, +ℤ_idl) f

  pub negated : Word w (of_z w (pos 0 -ℤ to_z w p)) (neg_ℤ x)
  negated = rw (a.is, +ℤ_idl) (word f)

-- a shift to the right is the floor division, and always fits
pub shifted : {w : Width} {p : ℕ} {x : ℤ} (m : ℕ) → Word w p x → Word w (of_z w (shr_z (to_z w p) m)) (shr_z x m)
shifted {x = x} m a = rw a.is (word (record { sfits = lt_of_le_of_lt (mag_shr x m) a.fits.sfits }))

-- a cast to a wider word: what it asks, and what it gives
module _ {w w' : Width} (t : T (leb (hbits w) (hbits w'))) {p : ℕ} {x : ℤ} (a : Word w p x) where
  pub widens : SFits w' (to_z w p)
  widens = rw a.is (sfits_widen t a.fits)

  pub widened : Word w' (of_z w' (to_z w p)) x
  widened = rw a.is (word (sfits_widen t a.fits))

-- a cast of 64 bits that hold a number which fits 32
module _ {p : ℕ} {x : ℤ} (a : Word w64 p x) (f : SFits w32 x) where
  pub narrows : SFits w32 (to_z w64 p)
  narrows = rw a.is f

  pub narrowed : to_z w32 (of_z w32 (to_z w64 p)) ≡ x
  narrowed = rw a.is (to_z-of_z f)

-- a cast of 32 bits that were read to 64
module _ (x : ℤ) (l : mag x < 2 ^ 31) where
  half_word : Word w32 (of_z w32 x) x
  half_word = word (sfits_of l)

  pub read_widens : SFits w64 (to_z w32 (of_z w32 x))
  read_widens = widens tt half_word

  pub read_widened : Word w64 (of_z w64 (to_z w32 (of_z w32 x))) x
  read_widened = widened tt half_word

-- a test of the sign, as a cast to an unsigned word asks it (`Fits-nat_abs` of the library has the rest)
pub not_negative : (x : ℤ) → lt_z x (pos 0) ≡ false → T (non_neg x)
not_negative (pos n) e = tt
not_negative (negsuc n) e = true≢false e

-- a negative number turned round is its size
pub negative_turned : (x : ℤ) → lt_z x (pos 0) ≡ true → neg_ℤ x ≡ pos (nat_abs x)
negative_turned (pos n) h = absurd (omega (arith, ltb-true n 0 h))
negative_turned (negsuc n) h = refl

-- the complement of the bits of a negative number is one less than its size
abbrev pub Turned : ℤ → Type 0
Turned x = (n : ℕ) × (n < 2 ^ 31) × (nat_abs x ≡ n + 1) × (to_z w32 (4294967295 - of_z w32 x) ≡ pos n)

pub turned : (x : ℤ) → SFits w32 x → lt_z x (pos 0) ≡ true → Turned x
turned (pos n) f h = absurd (omega (arith, ltb-true n 0 h))
turned (negsuc n) f h =
    let s : 4294967295 - (2 ^ 32 - suc n) ≡ n = omega arith in
    (n, f.sfits, omega arith, simp (s, lt-ltb n (2 ^ 31) f.sfits))
