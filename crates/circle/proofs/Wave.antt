-- The first quarter of K as a list, so that a computed test walks along it.
-- Assumes nothing.
use mathlib.Core.Path.{◌≡◌, refl, sym, ap, ◌∙◌}
use mathlib.Core.Logic.{⊎_elim}
use mathlib.Core.List.{List, [], ◌∷◌}
use Prim.Native.Nat.{ℕ, zero, suc, ◌+◌, ◌≤◌, ◌<◌}
use native.Mathlib.Omega.{arith}
use lib.Dec.{T}
use lib.ListN.{length, get_or}
use lib.IntN.{ℤ, pos}
use borrow.Author.Tests.{lt-ltb, le-ltb}
use Rattle.whole.proofs.Cases.{le_or_lt, both}
use Rattle.whole.proofs.Size.{◌within◌, within_neg}
use Rattle.circle.specs.Circle.{B, root_of, halved, Point, unit_step, step, stepped, first_quarter, K}
use Rattle.circle.proofs.Tests.{small, entry, all_small, all_small_lem}
use Rattle.circle.proofs.Places.{on_both, K_quarter}

-- the unit step in digits
abbrev pub unit : Point
unit = record { c = pos 1208924397255013589970077; s = pos 1854468253976911811195 }

unit_is : unit_step ≡ unit
unfolding root_of halved unit_step
unit_is = refl

-- the cosines of n places from the pair p on, each a step further, and a zero
unfoldable pub cosines : Point → ℕ → Point → List ℤ
cosines one zero p = pos 0 ∷ []
cosines one (suc n) p = p.c ∷ cosines one n (step one p)

-- K at 0 .. 1,024
unfoldable pub wave : List ℤ
wave = cosines unit 1024 (record { c = pos B; s = pos 0 })

cosines_at : (n i j : ℕ) → j < n → get_or (cosines unit_step n (stepped i)) j (pos 0) ≡ (stepped (i + j)).c
unfolding cosines stepped
cosines_at zero i j h = absurd (omega arith)
cosines_at (suc n) i zero h = ap (λ k. (stepped k).c) {x = i} {y = i + 0} (omega arith)
cosines_at (suc n) i (suc j) h =
    cosines_at n (suc i) j (omega arith) ∙ ap (λ k. (stepped k).c) {x = suc i + j} {y = i + suc j} (omega arith)

cosines_end : (n j : ℕ) (p : Point) → n ≤ j → get_or (cosines unit_step n p) j (pos 0) ≡ pos 0
unfolding cosines
cosines_end zero zero p h = refl
cosines_end zero (suc j) p h = refl
cosines_end (suc n) zero p h = absurd (omega arith)
cosines_end (suc n) (suc j) p h = cosines_end n j (step unit_step p) (omega arith)

wave_is : wave ≡ cosines unit_step 1024 (stepped 0)
unfolding wave stepped
wave_is = rw unit_is

quarter_at : (j : ℕ) → first_quarter j ≡ get_or wave j (pos 0)
unfolding first_quarter
quarter_at j = ⊎_elim
    (λ l. rw (le-ltb j 1024 l, wave_is) (sym (cosines_end 1024 j (stepped 0) l)))
    (λ l. rw (lt-ltb j 1024 l, wave_is) (sym (cosines_at 1024 0 j l ∙ ap (λ k. (stepped k).c) {x = 0 + j} {y = j} (omega arith))))
    (le_or_lt 1024 j)

pub wave_length : length wave ≡ 1025
unfolding wave cosines
wave_length = refl

pub K_wave : (j : ℕ) → j ≤ 1024 → K j ≡ entry wave j
unfolding entry
K_wave j h = K_quarter j h ∙ quarter_at j

-- ---- the size of K
wave_small : T (all_small B wave)
unfolding all_small both small wave cosines step
wave_small = tt

quarter_within : (j : ℕ) → first_quarter j within B
unfolding entry
quarter_within j = rw (quarter_at j) (all_small_lem B wave wave_small j)

pub K_within : (p : ℕ) → K p within B
unfolding K
K_within p = on_both (λ a b. a within B) (λ a b h. within_neg h) first_quarter first_quarter (λ j h. quarter_within j) p

pub K_start : K 0 ≡ pos B
unfolding entry wave cosines
K_start = K_wave 0 (omega arith)
