-- One step on from each place of the circle, by the cosine and the sine of the place 1:
--     |K(j+1) B - (K(j) K(1) - S(j) S(1))| ≤ 210,837 B   and   |S(j+1) B - (S(j) K(1) + K(j) S(1))| ≤ 210,837 B
-- One computed pass over the first quarter, carried round the circle by quarter turns.
-- Assumes nothing.
use mathlib.Core.Path.{◌≡◌, refl, sym, ap, ◌∙◌, subst}
use mathlib.Core.Bool.{Bool, true, false}
use mathlib.Core.List.{List, [], ◌∷◌}
use Prim.Native.Nat.{ℕ, zero, suc, ◌+◌, ◌-◌, ◌*◌, ◌/◌, ◌%◌, ◌≤◌, ◌<◌}
use native.Mathlib.Omega.{arith}
use lib.Dec.{T}
use lib.ListN.{length, get_or}
use lib.IntN.{ℤ, pos, neg_ℤ, ◌+ℤ◌, ◌-ℤ◌, ◌*ℤ◌}
use Rattle.whole.proofs.Cases.{both, both_left, both_right}
use Rattle.whole.proofs.Difference.{int}
use Rattle.whole.proofs.Ring.{expand}
use Rattle.whole.proofs.Size.{◌within◌, within_eq, within_neg}
use Rattle.circle.specs.Circle.{B, step, K, sine_at}
use Rattle.circle.proofs.Wave.{cosines, wave, wave_length, K_wave}
use Rattle.circle.proofs.Tests.{small, small_within, entry}
use Rattle.circle.proofs.Places.{mirror, turns_on, half_turn_on}

-- the step's error, in units of B
abbrev pub step_error : ℕ
step_error = 210837

-- K(1) and S(1), which is K(1023), in digits
abbrev pub cos_one : ℕ
cos_one = 1208924397255013589970077

abbrev pub sin_one : ℕ
sin_one = 1854468253976911600357

-- ---- the pass: c and s at a place, then the cosines and the sines of the places after it
-- xs turned round, before ys
unfoldable reversed : List ℤ → List ℤ → List ℤ
reversed [] ys = ys
reversed (x ∷ xs) ys = reversed xs (x ∷ ys)

abbrev cos_error : ℤ → ℤ → ℤ → ℤ
cos_error c s next = int cos_one *ℤ c -ℤ int sin_one *ℤ s -ℤ int B *ℤ next

abbrev sin_error : ℤ → ℤ → ℤ → ℤ
sin_error c s next = int sin_one *ℤ c +ℤ int cos_one *ℤ s -ℤ int B *ℤ next

-- each place of the lists is near what the step from the place before gives
steps_well : List ℤ → List ℤ → Bool
steps_well [] ys = true
steps_well (c ∷ []) ys = true
steps_well (c ∷ x ∷ xs) [] = false
steps_well (c ∷ x ∷ xs) (s ∷ []) = false
steps_well (c ∷ x ∷ xs) (s ∷ y ∷ ys) =
    both (small (cos_error c s x) (step_error * B)) (both (small (sin_error c s y) (step_error * B)) (steps_well (x ∷ xs) (y ∷ ys)))

pass : T (steps_well wave (reversed wave []))
unfolding steps_well both small reversed wave cosines step int
pass = tt

-- what the pass says at each place
module _ (c s : ℕ → ℤ) where
  abbrev CosStep : ℕ → Type 0
  CosStep j = cos_error (c j) (s j) (c (suc j)) within step_error * B

  abbrev SinStep : ℕ → Type 0
  SinStep j = sin_error (c j) (s j) (s (suc j)) within step_error * B

passed : (xs ys : List ℤ) → T (steps_well xs ys) → (j : ℕ) → suc j < length xs
    → CosStep (entry xs) (entry ys) j × SinStep (entry xs) (entry ys) j
unfolding steps_well entry
passed [] ys t j h = absurd (omega arith)
passed (c ∷ []) ys t j h = absurd (omega arith)
passed (c ∷ x ∷ xs) [] t j h = absurd t
passed (c ∷ x ∷ xs) (s ∷ []) t j h = absurd t
passed (c ∷ x ∷ xs) (s ∷ y ∷ ys) t zero h = (small_within _ _ (both_left _ _ t), small_within _ _ (both_left _ _ (both_right _ _ t)))
passed (c ∷ x ∷ xs) (s ∷ y ∷ ys) t (suc j) h =
    passed (x ∷ xs) (y ∷ ys) (both_right _ _ (both_right _ _ t)) j (omega arith)

-- ---- the first quarter
reversed_skip : (xs ys : List ℤ) (i : ℕ) → entry (reversed xs ys) (length xs + i) ≡ entry ys i
unfolding reversed entry
reversed_skip [] ys i = ap (λ j. get_or ys j (pos 0)) {x = 0 + i} {y = i} (omega arith)
reversed_skip (x ∷ xs) ys i =
    ap (λ j. entry (reversed xs (x ∷ ys)) j) {x = suc (length xs) + i} {y = length xs + suc i} (omega arith)
    ∙ reversed_skip xs (x ∷ ys) (suc i)

reversed_at : (xs ys : List ℤ) (i j : ℕ) → i + j + 1 ≡ length xs → entry (reversed xs ys) i ≡ entry xs j
unfolding reversed entry
reversed_at [] ys i j h = absurd (omega arith)
reversed_at (x ∷ xs) ys i zero h =
    ap (λ k. entry (reversed xs (x ∷ ys)) k) {x = i} {y = length xs + 0} (omega arith) ∙ reversed_skip xs (x ∷ ys) 0
reversed_at (x ∷ xs) ys i (suc j) h = reversed_at xs (x ∷ ys) i j (omega arith)

S_wave : (j : ℕ) → j ≤ 1024 → sine_at j ≡ entry (reversed wave []) j
S_wave j h =
    mirror _ (1024 - j) 1 (omega arith) ∙ K_wave (1024 - j) (omega arith)
    ∙ sym (reversed_at wave [] j (1024 - j) (omega (arith, wave_length)))

abbrev StepsAt : ℕ → Type 0
StepsAt j = CosStep K sine_at j × SinStep K sine_at j

first_quarter : (j : ℕ) → j < 1024 → StepsAt j
first_quarter j h =
    rw (K_wave j (omega arith), K_wave (suc j) h, S_wave j (omega arith), S_wave (suc j) h)
    (passed wave (reversed wave []) pass j (omega (arith, wave_length)))

-- ---- a quarter turn on: the cosine is minus the sine before, the sine the cosine before
cos_turned : (i j : ℕ) → i ≡ j + 1024 → K i ≡ neg_ℤ (sine_at j)
cos_turned i j h = sym (turns_on (i + 4096) i 1 (omega arith)) ∙ half_turn_on (i + 4096) (j + 3072) 0 (omega arith)

sin_turned : (i j : ℕ) → i ≡ j + 1024 → sine_at i ≡ K j
sin_turned i j h = turns_on (i + 3072) j 1 (omega arith)

next_quarter : (j : ℕ) → StepsAt j → StepsAt (j + 1024)
next_quarter j h =
    rw (
      cos_turned (j + 1024) j refl,
      cos_turned (suc (j + 1024)) (suc j) (omega arith),
      sin_turned (j + 1024) j refl,
      sin_turned (suc (j + 1024)) (suc j) (omega arith),
    ) (
      within_eq (cos_error_lem (int cos_one) (int sin_one) (int B) (K j) (sine_at j) (sine_at (suc j))) (within_neg h.1),
      within_eq (sin_error_lem (int cos_one) (int sin_one) (int B) (K j) (sine_at j) (K (suc j))) h.0,
    )
  where
    cos_error_lem : (a o b c s t : ℤ) → neg_ℤ (o *ℤ c +ℤ a *ℤ s -ℤ b *ℤ t) ≡ a *ℤ neg_ℤ s -ℤ o *ℤ c -ℤ b *ℤ neg_ℤ t
    cos_error_lem a o b c s t = simp expand

    sin_error_lem : (a o b c s t : ℤ) → a *ℤ c -ℤ o *ℤ s -ℤ b *ℤ t ≡ o *ℤ neg_ℤ s +ℤ a *ℤ c -ℤ b *ℤ t
    sin_error_lem a o b c s t = simp expand

quarters_on : (q j : ℕ) → StepsAt j → StepsAt (j + 1024 * q)
quarters_on zero j h = subst StepsAt {x = j} {y = j + 1024 * 0} (omega arith) h
quarters_on (suc q) j h =
    subst StepsAt {x = j + 1024 * q + 1024} {y = j + 1024 * suc q} (omega arith) (next_quarter (j + 1024 * q) (quarters_on q j h))

pub step_law : (j : ℕ) → StepsAt j
step_law j =
    subst StepsAt {x = j % 1024 + 1024 * (j / 1024)} {y = j} (omega arith)
    (quarters_on (j / 1024) (j % 1024) (first_quarter (j % 1024) (omega arith)))
