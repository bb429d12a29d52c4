-- A wave at every place, from the wave on the first quarter; and K, which is one. All symmetries are two laws on sums of places, which
-- omega proves of the places at hand:
--     mirror      i + j ≡ 4096 m          gives K i ≡ K j
--     opposite    i + j ≡ 4096 m + 2048   gives K i ≡ - K j
-- Assumes nothing.
use mathlib.Core.Path.{◌≡◌, refl, sym, ap, ◌∙◌}
use mathlib.Core.Logic.{◌⊎◌, inl, inr, ⊎_elim}
use Prim.Native.Nat.{ℕ, ◌+◌, ◌-◌, ◌*◌, ◌%◌, ◌≤◌, ◌<◌, min}
use native.Mathlib.Omega.{arith}
use lib.IntN.{ℤ, pos, neg_ℤ, neg_ℤ-neg_ℤ}
use borrow.Author.Tests.{le-leb, lt-leb}
use Rattle.whole.proofs.Cases.{le_or_lt}
use Rattle.circle.specs.Circle.{first_quarter, on_half, on_circle, K}

-- ---- a wave that is given on the first quarter, and 0 at its end
module _ (q : ℕ → ℤ) where
  -- the half circle, 0 .. 2,048
  pub half_low : (j : ℕ) → j ≤ 1024 → on_half q j ≡ q j
  unfolding on_half
  half_low j h = rw (le-leb j 1024 h)

  pub half_high : (j : ℕ) → 1024 < j → on_half q j ≡ neg_ℤ (q (2048 - j))
  unfolding on_half
  half_high j h = rw (lt-leb j 1024 h)

  half_below : (i j : ℕ) → i + j ≡ 2048 → i < 1024 → on_half q j ≡ neg_ℤ (on_half q i)
  half_below i j h l =
      half_high j (omega arith) ∙ ap (λ n. neg_ℤ (q n)) {x = 2048 - j} {y = i} (omega arith)
      ∙ ap neg_ℤ (sym (half_low i (omega arith)))

  half_opposite : q 1024 ≡ pos 0 → (i j : ℕ) → i + j ≡ 2048 → on_half q i ≡ neg_ℤ (on_half q j)
  half_opposite e i j h =
      ⊎_elim
      (λ l. ⊎_elim (λ k. at_the_middle (omega arith) (omega arith)) (λ k. half_below j i (omega arith) k) (le_or_lt 1024 j))
      (λ l. sym (ap neg_ℤ (half_below i j h l) ∙ neg_ℤ-neg_ℤ (on_half q i)))
      (le_or_lt 1024 i)
    where
      at_the_middle : i ≡ 1024 → j ≡ 1024 → on_half q i ≡ neg_ℤ (on_half q j)
      at_the_middle p r = rw (p, r, half_low 1024 (omega arith), e)

-- a place's distance from the place 0, either way round
unfoldable fold : ℕ → ℕ
fold p = min (p % 4096) (4096 - p % 4096)

-- the remainders of two places whose sum is known
rests : (i j m c : ℕ) → c < 4096 → i + j ≡ 4096 * m + c → (i % 4096 + j % 4096 ≡ c) ⊎ (i % 4096 + j % 4096 ≡ c + 4096)
rests i j m c l h = ⊎_elim (λ g. inl (omega arith)) (λ g. inr (omega arith)) (le_or_lt (i % 4096 + j % 4096) 4095)

fold_mirror : (i j m : ℕ) → i + j ≡ 4096 * m → fold i ≡ fold j
unfolding fold
fold_mirror i j m h = ⊎_elim (λ g. omega arith) (λ g. omega arith) (rests i j m 0 (omega arith) (omega arith))

fold_opposite : (i j m : ℕ) → i + j ≡ 4096 * m + 2048 → fold i + fold j ≡ 2048
unfolding fold
fold_opposite i j m h = ⊎_elim (λ g. omega arith) (λ g. omega arith) (rests i j m 2048 (omega arith) h)

module _ (q : ℕ → ℤ) where
  -- the circle
  on_fold : (p : ℕ) → on_circle q p ≡ on_half q (fold p)
  unfolding on_circle fold
  on_fold p = ⊎_elim
      (λ l. rw (le-leb (p % 4096) 2048 l) (ap (on_half q) {x = p % 4096} {y = min (p % 4096) (4096 - p % 4096)} (omega arith)))
      (λ l. rw (lt-leb (p % 4096) 2048 l) (ap (on_half q) {x = 4096 - p % 4096} {y = min (p % 4096) (4096 - p % 4096)} (omega arith)))
      (le_or_lt (p % 4096) 2048)

  pub on_mirror : (i j m : ℕ) → i + j ≡ 4096 * m → on_circle q i ≡ on_circle q j
  on_mirror i j m h = on_fold i ∙ ap (on_half q) (fold_mirror i j m h) ∙ sym (on_fold j)

  pub on_opposite : q 1024 ≡ pos 0 → (i j m : ℕ) → i + j ≡ 4096 * m + 2048 → on_circle q i ≡ neg_ℤ (on_circle q j)
  on_opposite e i j m h = on_fold i ∙ half_opposite q e (fold i) (fold j) (fold_opposite i j m h) ∙ ap neg_ℤ (sym (on_fold j))

  -- (4095 j is the place opposite j)
  pub on_turns : (i j m : ℕ) → i ≡ j + 4096 * m → on_circle q i ≡ on_circle q j
  on_turns i j m h = on_mirror i (4095 * j) (j + m) (omega arith) ∙ on_mirror (4095 * j) j j (omega arith)

  -- on the quarter it is the wave that is given
  pub on_quarter : (j : ℕ) → j ≤ 1024 → on_circle q j ≡ q j
  unfolding fold
  on_quarter j h = on_fold j ∙ ap (on_half q) {x = fold j} {y = j} (omega arith) ∙ half_low q j h

-- ---- K
quarter_end : first_quarter 1024 ≡ pos 0
unfolding first_quarter
quarter_end = refl

pub mirror : (i j m : ℕ) → i + j ≡ 4096 * m → K i ≡ K j
unfolding K
mirror i j m h = on_mirror first_quarter i j m h

pub opposite : (i j m : ℕ) → i + j ≡ 4096 * m + 2048 → K i ≡ neg_ℤ (K j)
unfolding K
opposite i j m h = on_opposite first_quarter quarter_end i j m h

-- ---- the same for places whose difference is known
pub turns_on : (i j m : ℕ) → i ≡ j + 4096 * m → K i ≡ K j
unfolding K
turns_on i j m h = on_turns first_quarter i j m h

pub half_turn_on : (i j m : ℕ) → i ≡ j + (4096 * m + 2048) → K i ≡ neg_ℤ (K j)
half_turn_on i j m h = opposite i (4095 * j) (j + m) (omega arith) ∙ ap neg_ℤ (mirror (4095 * j) j j (omega arith))

-- ---- what two waves have in common on the first quarter, and with it their negatives, they have in common all round
pub on_both : (R : ℤ → ℤ → Type 0) → ((a b : ℤ) → R a b → R (neg_ℤ a) (neg_ℤ b)) → (f g : ℕ → ℤ) → ((j : ℕ) → j ≤ 1024 → R (f j) (g j))
    → (p : ℕ) → R (on_circle f p) (on_circle g p)
on_both R negate f g h p = rw (on_fold f p, on_fold g p) (⊎_elim
    (λ l. rw (half_low f (fold p) l, half_low g (fold p) l) (h (fold p) l))
    (λ l. rw (half_high f (fold p) l, half_high g (fold p) l) (negate _ _ (h (2048 - fold p) (omega arith))))
    (le_or_lt (fold p) 1024))

-- ---- the first quarter
pub K_quarter : (j : ℕ) → j ≤ 1024 → K j ≡ first_quarter j
unfolding K
K_quarter j h = on_quarter first_quarter j h

pub K_zero : (m : ℕ) → K (2048 * m + 1024) ≡ pos 0
unfolding K fold
K_zero m =
    on_fold first_quarter (2048 * m + 1024) ∙ ap (on_half first_quarter) {x = fold (2048 * m + 1024)} {y = 1024} (omega arith)
    ∙ half_low first_quarter 1024 (omega arith) ∙ quarter_end
