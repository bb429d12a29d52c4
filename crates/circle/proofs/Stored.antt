-- The stored quarter wave: as a list, its strict fall, its nearness to K, and the entries that document 01 gives in digits.
-- Assumes nothing.
use mathlib.Core.Path.{◌≡◌, refl, sym, ap, ◌∙◌, subst, subst₂}
use mathlib.Core.List.{List, [], ◌∷◌}
use Prim.Native.Nat.{ℕ, zero, suc, ◌^◌, ◌≤◌}
use native.Mathlib.Omega.{arith}
use lib.Dec as D
use lib.Dec.{lit<}
use lib.ListN.{length}
use lib.IntN.{ℤ, pos, ◌+ℤ◌}
use lib.Signed.{shr_z, ◌<ℤ◌, non_neg}
use Rattle.whole.proofs.Difference.{int}
use Rattle.whole.proofs.Size.{within_size}
use Rattle.whole.proofs.Rounding.{by_half, half_near}
use Rattle.whole.proofs.Cases.{both}
use Rattle.circle.specs.Circle.{step, K, T, IsQuarterWave}
use Rattle.circle.specs.Laws.{AtEntry}
use Rattle.circle.proofs.Tests.{entry, same, same_at, falls, falling, none_below, none_below_lem}
use Rattle.circle.proofs.Wave.{cosines, wave, K_wave}

-- the table's rule from K
abbrev rule : ℤ → ℤ
rule k = shr_z (k +ℤ pos (2 ^ 49)) (2 ^ 50)

unfoldable pub ruled : List ℤ → List ℤ
ruled [] = []
ruled (k ∷ ks) = rule k ∷ ruled ks

ruled_at : (ks : List ℤ) (j : ℕ) → entry (ruled ks) j ≡ rule (entry ks j)
unfolding ruled entry
ruled_at [] j = refl
ruled_at (k ∷ ks) zero = refl
ruled_at (k ∷ ks) (suc j) = ruled_at ks j

-- T at 0 .. 1,024, computed
unfoldable pub stored : List ℤ
stored = ruled wave

pub stored_at : (j : ℕ) → j ≤ 1024 → entry stored j ≡ T j
unfolding stored T
stored_at j h = ruled_at wave j ∙ ap rule (sym (K_wave j h))

-- ---- a list of digits is the stored quarter wave: one test over all entries
pub same_wave : (digits : List ℤ) → D.T (same digits stored) → IsQuarterWave digits
unfolding entry
same_wave digits t j h = same_at digits stored t j ∙ stored_at j h

stored_falls : D.T (falls stored)
unfolding falls both stored ruled wave cosines step
stored_falls = tt

stored_none_below : D.T (none_below stored)
unfolding none_below both stored ruled wave cosines step
stored_none_below = tt

-- no entry is negative
pub entry_not_below : (j : ℕ) → j ≤ 1024 → D.T (non_neg (T j))
entry_not_below j h = subst (λ z. D.T (non_neg z)) (stored_at j h) (none_below_lem stored stored_none_below j)

stored_length : length stored ≡ 1025
unfolding stored ruled wave cosines
stored_length = refl

pub at_entry : (j : ℕ) → j ≤ 1024 → AtEntry j
unfolding T int
at_entry j h = record {
  falls = λ l. subst₂ ◌<ℤ◌ (stored_at (suc j) l) (stored_at j h) (falling stored stored_falls j (omega (arith, stored_length)));
  near = rw (by_half (K j) (2 ^ 49) (2 ^ 50) refl (lit< tt)) (within_size (half_near (K j) (2 ^ 49) (lit< tt)));
}
