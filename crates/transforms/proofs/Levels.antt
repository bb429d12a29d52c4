-- What follows of a block that is `Ready`: the sizes of its samples and coefficients, and that an equal block is ready too. A tail that
-- is lent to a transform.
-- Assumes nothing.
use mathlib.Core.Path.{◌≡◌, sym, ap, ◌∙◌}
use mathlib.Core.Bool.{true}
use mathlib.Core.List.{List}
use mathlib.Core.Logic.{⊎_elim}
use Prim.Native.Nat.{ℕ, suc, ◌+◌, ◌/◌, ◌^◌, ◌≤◌, ◌<◌}
use native.Mathlib.Nat.{mul-le-mul_right}
use native.Mathlib.Omega.{arith}
use lib.IntN.{ℤ, nat_abs}
use lib.ListN.{length}
use Rattle.whole.proofs.Cases.{le_or_lt}
use Rattle.words.specs.Words.{Samples, word}
use Rattle.words.proofs.Parts.{part, back, back_length, back_front, back_at}
use Rattle.lengths.specs.Block.{is_length, level, largest_sum}
use Rattle.ffct.specs.Transforms.{Transform}
use Rattle.lengths.proofs.Lengths.{len}
use Rattle.lengths.proofs.ElevenLengths.{as_len, level_le, length_pos, next_length}
use Rattle.ffct.proofs.Sizes.{Inner, share_inner}
use Rattle.counts.specs.declared.tally.Tally.{Tally}
use Rattle.transforms.specs.Steps.{Ready, Gives}

module _ {n : ℕ} {x : Samples} (r : Ready n x) where
  -- the inner transform of ffct's laws
  pub inner : Inner (level n) x (largest_sum / len (level n))
  inner =
      let e = as_len n r.length_ok in
      share_inner (level_le n r.length_ok) (λ i h. rw (sym e) (r.samples i (omega (arith, e))))

  -- each sample, whatever the length
  pub sample_le : (i : ℕ) → i < n → nat_abs (x i) ≤ largest_sum
  sample_le i h = omega (arith, mul-le-mul_right (nat_abs (x i)) (length_pos n r.length_ok), r.samples i h)

  pub ready_same : {y : Samples} → ((i : ℕ) → i < n → y i ≡ x i) → Ready n y
  ready_same e = record { length_ok = r.length_ok; samples = λ i h. rw (e i h) (r.samples i h) }

-- a tail that is lent and transformed, seen from the whole
pub lent : {t : Transform} {b m : ℕ} {before p : List ℤ} {spent total : Tally} → b ≤ length before →
    Gives t 0 m (part b before) p spent total →
    Gives t b m before (back b before p) spent total
lent {b = b} {before = before} {p = p} h g = record {
  coefficients = λ k l. back_at b before p h k ∙ ap (word p) {x = k} {y = 0 + k} (omega arith) ∙ g.coefficients k l;
  front = λ k l. back_front b before p h k l;
  tallied = g.tallied;
  len = back_length b before p h g.len;
}

-- ---- a length up to 32 that is none of the first five is 32
longer : {n : ℕ} (L : ℕ) → is_length n ≡ true → (n ≡ 2 ^ L → ⊥) → 2 ^ L ≤ n → 2 ^ suc L ≤ n
longer {n} L ok other h = ⊎_elim
    (λ above. above)
    (λ below. let next = next_length L n ok (omega arith) (omega arith) in omega arith)
    (le_or_lt (2 ^ suc L) n)

abbrev pub NoneOfFive : ℕ → Type 0
NoneOfFive n = (n ≡ 1 → ⊥) × (n ≡ 2 → ⊥) × (n ≡ 4 → ⊥) × (n ≡ 8 → ⊥) × (n ≡ 16 → ⊥)

pub sixth : (n : ℕ) → is_length n ≡ true → n ≤ 32 → NoneOfFive n → n ≡ 32
sixth n ok h o =
    let above : 32 ≤ n = longer 4 ok o.4 (longer 3 ok o.3 (longer 2 ok o.2 (longer 1 ok o.1 (longer 0 ok o.0 (length_pos n ok))))) in
    omega arith
