-- T round the circle: its symmetries, its size and its nearness to K, each from T on the first quarter.
-- Assumes nothing.
use mathlib.Core.Path.{◌≡◌, ap, ◌∙◌}
use mathlib.Core.Logic.{⊎_elim}
use Prim.Native.Nat.{ℕ, ◌+◌, ◌-◌, ◌*◌, ◌^◌, min, ◌≤◌, ◌<◌}
use native.Mathlib.Omega.{arith}
use lib.IntN.{ℤ, pos, neg_ℤ, ◌-ℤ◌, ◌*ℤ◌}
use Rattle.whole.proofs.Cases.{le_or_lt}
use Rattle.whole.proofs.Difference.{int, parts, diff}
use Rattle.whole.proofs.Size.{near, ◌within◌, size_within, within_neg, within_eq, within-⊖}
use Rattle.circle.specs.Circle.{first_quarter, K, T}
use Rattle.circle.proofs.Places.{on_mirror, on_opposite, on_turns, on_quarter, on_both, K_quarter}
use Rattle.circle.proofs.Stored.{at_entry}
use Rattle.circle.proofs.Laws.{known_places}
use Rattle.ffct.proofs.Sizes.{entry_within}
use Rattle.inverse.specs.Inverse.{T°}

pub wave_turns : (i j m : ℕ) → i ≡ j + 4096 * m → T° i ≡ T° j
unfolding T°
wave_turns i j m h = on_turns T i j m h

pub wave_mirror : (i j m : ℕ) → i + j ≡ 4096 * m → T° i ≡ T° j
unfolding T°
wave_mirror i j m h = on_mirror T i j m h

pub wave_opposite : (i j m : ℕ) → i + j ≡ 4096 * m + 2048 → T° i ≡ neg_ℤ (T° j)
unfolding T°
wave_opposite i j m h = on_opposite T known_places.last i j m h

pub wave_start : T° 0 ≡ pos (2 ^ 30)
unfolding T°
wave_start = on_quarter T 0 (omega arith) ∙ known_places.first

-- a place folded to the first half of the circle: up to 1,024 it is T, beyond it the negative of T
module _ (p j : ℕ) (h : j ≡ min p (4096 - p)) (l : p < 4096) where
  folded : T° p ≡ T° j
  folded = ⊎_elim (λ o. wave_mirror p j 1 (omega arith)) (λ o. ap T° {x = p} {y = j} (omega arith)) (le_or_lt (4096 - p) p)

  entry : (k : ℕ) → k ≤ 1024 → T° k ≡ T k
  unfolding T°
  entry k i = on_quarter T k i

  pub wave_low : j ≤ 1024 → T° p ≡ T j
  wave_low i = folded ∙ entry j i

  pub wave_high : 1024 < j → T° p ≡ neg_ℤ (T (2048 - j))
  wave_high i = folded ∙ wave_opposite j (2048 - j) 0 (omega arith) ∙ ap neg_ℤ (entry (2048 - j) (omega arith))

pub wave_small : (p : ℕ) → T° p within 2 ^ 30
unfolding T°
wave_small p = on_both (λ a b. a within 2 ^ 30) (λ a b h. within_neg h) T T entry_within p

-- |T°(p) 2^50 - K(p)| ≤ 2^49
abbrev Near : ℤ → ℤ → Type 0
Near t k = t *ℤ int (2 ^ 50) -ℤ k within 2 ^ 49

negated : (t k : ℤ) → Near t k → Near (neg_ℤ t) (neg_ℤ k)
negated t k h =
    let h' = within-⊖ _ _ _ (simp diff at (rw (parts t, parts k) at h)) in
    rw (parts t, parts k) (simp diff (omega near))

on_first : (j : ℕ) → j ≤ 1024 → Near (T j) (first_quarter j)
unfolding int
on_first j h = within_eq (ap (λ k. T j *ℤ pos (2 ^ 50) -ℤ k) (K_quarter j h)) (size_within _ (at_entry j h).near)

pub wave_near : (p : ℕ) → Near (T° p) (K p)
unfolding T° K
wave_near p = on_both Near negated T first_quarter on_first p
