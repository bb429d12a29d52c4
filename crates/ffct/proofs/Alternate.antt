-- The sign (-1)^n: `alternate n z` is z where n is even and -z where n is odd.
-- Assumes nothing.
use mathlib.Core.Path.{◌≡◌, refl, sym, ◌∙◌}
use Prim.Native.Nat.{ℕ, zero, suc, ◌%◌}
use native.Mathlib.Omega.{arith}
use lib.IntN.{ℤ, neg_ℤ, neg_ℤ-neg_ℤ, ◌-ℤ◌}
use Rattle.whole.proofs.Difference.{parts, diff}
use Rattle.whole.proofs.Size.{near}
use Rattle.ffct.specs.Transforms.{alternate}

pub alternate_even : (n : ℕ) (z : ℤ) → n % 2 ≡ 0 → alternate n z ≡ z
unfolding alternate
alternate_even zero z e = refl
alternate_even (suc zero) z e = absurd (omega arith)
alternate_even (suc (suc n)) z e = neg_ℤ-neg_ℤ (alternate n z) ∙ alternate_even n z (omega arith)

pub alternate_odd : (n : ℕ) (z : ℤ) → (n % 2 ≡ 0 → ⊥) → alternate n z ≡ neg_ℤ z
unfolding alternate
alternate_odd zero z o = absurd (o refl)
alternate_odd (suc zero) z o = refl
alternate_odd (suc (suc n)) z o = neg_ℤ-neg_ℤ (alternate n z) ∙ alternate_odd n z (omega arith)

-- at odd n it turns a difference round
pub alternate_turned : (n : ℕ) (x y : ℤ) → n % 2 ≡ 1 → y -ℤ x ≡ alternate n (x -ℤ y)
alternate_turned n x y o = opposite ∙ sym (alternate_odd n (x -ℤ y) (λ e. omega arith))
  where
    opposite : y -ℤ x ≡ neg_ℤ (x -ℤ y)
    opposite = rw (parts x, parts y) (simp diff (omega near))
