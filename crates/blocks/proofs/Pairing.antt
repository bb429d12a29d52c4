-- A block put in pairs (`in_pairs` of specs/Buffers), place by place, and as the transforms read it. Assumes nothing.
use mathlib.Core.Path.{◌≡◌, ap, ◌∙◌}
use mathlib.Core.Logic.{⊎_elim}
use Prim.Native.Nat.{ℕ, ◌+◌, ◌-◌, ◌*◌, ◌%◌, ◌<◌}
use native.Mathlib.Omega.{arith}
use borrow.Author.Tests.{eq-eqb, ne_eqb}
use Rattle.whole.proofs.Cases.{le_or_lt}
use Rattle.words.specs.Words.{Samples}
use Rattle.transforms.specs.Pairs.{paired}
use Rattle.transforms.proofs.Pairs.{paired_near, paired_far}
use Rattle.blocks.specs.Buffers.{in_pairs}

module _ (n : ℕ) (x : Samples) (i : ℕ) where
  pub pairs_even : in_pairs n x (2 * i) ≡ x i
  unfolding in_pairs
  pairs_even = rw (eq-eqb (2 * i % 2) 0 (omega arith)) (ap x (omega arith))

  pub pairs_odd : in_pairs n x (2 * i + 1) ≡ x (n - 1 - i)
  unfolding in_pairs
  pairs_odd = rw (ne_eqb ((2 * i + 1) % 2) 0 (λ e. omega arith)) (ap x (omega arith))

pub paired_back : (n : ℕ) (x : Samples) (i : ℕ) → i < n → paired n 1 (in_pairs n x) i ≡ x i
paired_back n x i h = ⊎_elim
    (λ l.
    paired_far n 1 (in_pairs n x) i l ∙ ap (in_pairs n x) {x = 2 * 1 * (n - i) - 1} {y = 2 * (n - i - 1) + 1} (omega arith)
    ∙ pairs_odd n x (n - i - 1) ∙ ap x (omega arith))
    (λ l. paired_near n 1 (in_pairs n x) i l ∙ ap (in_pairs n x) {x = 2 * 1 * i} {y = 2 * i} (omega arith) ∙ pairs_even n x i)
    (le_or_lt n (2 * i))
