-- The laws of the commutative ring ℤ that the library does not have. (`lib.IntN` has the group laws of the sum and `*ℤ-comm`.)
-- Assumes nothing.
use mathlib.Core.Path.{◌≡◌}
use native.Mathlib.Omega.{arith}
use lib.IntN.{ℤ, neg_ℤ, ◌+ℤ◌, ◌*ℤ◌, *ℤ_comm, +ℤ_comm, +ℤ_assoc, neg_ℤ-+ℤ, neg_ℤ-neg_ℤ}
use Rattle.whole.proofs.Difference.{parts, diff, ⊖-eq}

pub *ℤ-assoc : (a b c : ℤ) → a *ℤ b *ℤ c ≡ a *ℤ (b *ℤ c)
*ℤ-assoc a b c = rw (parts a, parts b, parts c) (simp diff (omega (arith, ⊖-eq)))

pub *ℤ-+ℤ : (a b c : ℤ) → a *ℤ (b +ℤ c) ≡ a *ℤ b +ℤ a *ℤ c
*ℤ-+ℤ a b c = rw (parts a, parts b, parts c) (simp diff (omega (arith, ⊖-eq)))

pub +ℤ-*ℤ : (a b c : ℤ) → (a +ℤ b) *ℤ c ≡ a *ℤ c +ℤ b *ℤ c
+ℤ-*ℤ a b c = rw (parts a, parts b, parts c) (simp diff (omega (arith, ⊖-eq)))

pub negℤ-*ℤ : (a b : ℤ) → neg_ℤ a *ℤ b ≡ neg_ℤ (a *ℤ b)
negℤ-*ℤ a b = rw (parts a, parts b) (simp diff (omega (arith, ⊖-eq)))

pub *ℤ-negℤ : (a b : ℤ) → a *ℤ neg_ℤ b ≡ neg_ℤ (a *ℤ b)
*ℤ-negℤ a b = rw (parts a, parts b) (simp diff (omega (arith, ⊖-eq)))

pub +ℤ-left-comm : (a b c : ℤ) → a +ℤ (b +ℤ c) ≡ b +ℤ (a +ℤ c)
+ℤ-left-comm a b c = rw (parts a, parts b, parts c) (simp diff (omega (arith, ⊖-eq)))

pub *ℤ-left_comm : (a b c : ℤ) → a *ℤ (b *ℤ c) ≡ b *ℤ (a *ℤ c)
*ℤ-left_comm a b c = rw (parts a, parts b, parts c) (simp diff (omega (arith, ⊖-eq)))

-- where an equation has too many products for omega (above 64) and nothing cancels: `simp expand` multiplies both sides out and sorts them
pub ruleset expand = (
  *ℤ-+ℤ,
  +ℤ-*ℤ,
  *ℤ-negℤ,
  negℤ-*ℤ,
  neg_ℤ-+ℤ,
  neg_ℤ-neg_ℤ,
  +ℤ_assoc,
  +ℤ_comm,
  +ℤ-left-comm,
  *ℤ-assoc,
  *ℤ_comm,
  *ℤ-left_comm,
)
