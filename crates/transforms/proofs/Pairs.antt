-- A block in pairs (`paired` of specs/Pairs):
--     paired-near, paired-far      its two halves
--     paired-source, paired_same   each sample is one of the first s n words, whatever these are
--     paired-evens                 its even samples are a block in pairs of twice the stride
--     paired-odd, paired-mirror    sample 2 i + 1 and its mirror image are neighbours
--     paired-rearranged            with the stride 1 it is the block that (16) makes
-- Assumes nothing.
use mathlib.Core.Path.{◌≡◌, sym, ◌∙◌, ap}
use mathlib.Core.Logic.{⊎_elim}
use Prim.Native.Nat.{ℕ, ◌+◌, ◌-◌, ◌*◌, ◌/◌, ◌≤◌, ◌<◌}
use native.Mathlib.Nat.{mul-le-mul_left}
use native.Mathlib.Omega.{arith}
use borrow.Author.Tests.{lt-ltb, le-ltb}
use Rattle.whole.proofs.Cases.{le_or_lt}
use Rattle.words.specs.Words.{Samples}
use Rattle.ffct.specs.Transforms.{evens, rearranged}
use Rattle.transforms.specs.Pairs.{paired}

module _ (n s : ℕ) (z : Samples) (i : ℕ) where
  pub paired_near : 2 * i < n → paired n s z i ≡ z (2 * s * i)
  unfolding paired
  paired_near h = rw (lt-ltb (2 * i) n h)

  pub paired_far : n ≤ 2 * i → paired n s z i ≡ z (2 * s * (n - i) - 1)
  unfolding paired
  paired_far h = rw (le-ltb (2 * i) n h)

pub paired_source : (n s i : ℕ) → 1 ≤ s → i < n → (j : ℕ) × (j < s * n) × ((z : Samples) → paired n s z i ≡ z j)
paired_source n s i h l = ⊎_elim
    (λ o. (
      2 * s * (n - i) - 1,
      omega (arith, mul-le-mul_left {m = 2 * (n - i)} {n = n} s (omega arith), mul-le-mul_left s l),
      λ z. paired_far n s z i o,
    ))
    (λ o. (2 * s * i, omega (arith, mul-le-mul_left {m = 2 * i + 1} {n = n} s (omega arith)), λ z. paired_near n s z i o))
    (le_or_lt n (2 * i))

pub paired_same : (n s : ℕ) (z z' : Samples) → 1 ≤ s → ((j : ℕ) → j < s * n → z j ≡ z' j) → (i : ℕ) → i < n →
    paired n s z i ≡ paired n s z' i
paired_same n s z z' h e i l =
    let o = paired_source n s i h l in
    o.2 z ∙ e o.0 o.1 ∙ sym (o.2 z')

module _ (n s : ℕ) (z : Samples) (q : 4 * (n / 4) ≡ n) (i : ℕ) where
  pub paired_evens : i < n / 2 → paired (n / 2) (2 * s) z i ≡ evens (paired n s z) i
  paired_evens h = ⊎_elim
      (λ o. paired_far (n / 2) (2 * s) z i o ∙ ap z place ∙ sym (paired_far n s z (2 * i) (omega arith)))
      (λ o. paired_near (n / 2) (2 * s) z i o ∙ ap z {x = 2 * (2 * s) * i} {y = 2 * s * (2 * i)} (omega arith)
      ∙ sym (paired_near n s z (2 * i) (omega arith)))
      (le_or_lt (n / 2) (2 * i))
    where
      twice : 2 * (n / 2 - i) ≡ n - 2 * i
      twice = omega arith

      place : 2 * (2 * s) * (n / 2 - i) - 1 ≡ 2 * s * (n - 2 * i) - 1
      place = omega (arith, ap (λ m. s * m) twice)

  pub paired_odd : i < n / 4 → paired n s z (2 * i + 1) ≡ z (2 * s * (2 * i + 1))
  paired_odd h = paired_near n s z (2 * i + 1) (omega arith)

  pub paired_mirror : i < n / 4 → paired n s z (n - 2 * i - 1) ≡ z (2 * s * (2 * i + 1) - 1)
  paired_mirror h =
      let place : n - (n - 2 * i - 1) ≡ 2 * i + 1 = omega arith in
      paired_far n s z (n - 2 * i - 1) (omega arith) ∙ ap (λ m. z (2 * s * m - 1)) place

pub paired_rearranged : (n : ℕ) (z : Samples) → 2 * (n / 2) ≡ n → (i : ℕ) → i < n → paired n 1 z i ≡ rearranged n z i
unfolding rearranged
paired_rearranged n z e i h = ⊎_elim
    (λ l. paired_far n 1 z i (omega arith) ∙ rw (le-ltb i (n / 2) l) (ap z (omega arith)))
    (λ l. paired_near n 1 z i (omega arith) ∙ rw (lt-ltb i (n / 2) l) (ap z (omega arith)))
    (le_or_lt (n / 2) i)
