-- One turn of a loop that folds (12), (15): sample 2 i + 1 and its mirror image, which are neighbours, read while a run behind the block
-- is written.
-- Assumes nothing.
use mathlib.Core.List.{List}
use mathlib.Core.Path.{◌≡◌, sym, ◌∙◌}
use Prim.Native.Nat.{ℕ, ◌+◌, ◌*◌, ◌-◌, ◌/◌, ◌≤◌, ◌<◌}
use native.Mathlib.Nat.{mul-le-mul_left}
use native.Mathlib.Omega.{arith}
use lib.IntN.{ℤ, pos, nat_abs}
use Rattle.words.specs.Words.{word}
use Rattle.words.proofs.Writing.{Ends}
use Rattle.lengths.specs.Block.{largest_sum}
use Rattle.counts.specs.declared.tally.Tally.{Tally}
use Rattle.transforms.specs.Pairs.{paired}
use Rattle.transforms.specs.Steps.{FoldReady}
use Rattle.transforms.proofs.Pairs.{paired_odd, paired_mirror}

-- the place of sample 2 i + 1
abbrev pub place : ℕ → ℕ → ℕ
place s i = 2 * s * (2 * i + 1)

-- it lies inside the block, and is not its first; there and before it a turn reads, from `after`, two samples of the block `before`
pub record FoldTurn (n s b i : ℕ) (before after : List ℤ) : Type 0 where
  pub inside : place s i < b
  pub not_first : 1 ≤ place s i
  pub first_is : word after (place s i) ≡ paired n s (word before) (2 * i + 1)
  pub second_is : word after (place s i - 1) ≡ paired n s (word before) (n - 2 * i - 1)
  pub first_small : nat_abs (word after (place s i)) ≤ largest_sum
  pub second_small : nat_abs (word after (place s i - 1)) ≤ largest_sum

pub fold_turn : {n s b a c m : ℕ} {f : ℕ → ℤ} {before after : List ℤ} {spent : Tally} → FoldReady n s b before spent
    → Ends (pos 0) b a c m f before after → (i : ℕ) → i < n / 4 → FoldTurn n s b i before after
fold_turn {n} {s} {b} {before = before} {after = after} r run i h = record {
  inside = inside;
  not_first = not_first;
  first_is = first;
  second_is = second;
  first_small = rw first (r.samples (2 * i + 1) (omega arith));
  second_small = rw second (r.samples (n - 2 * i - 1) (omega arith));
}
  where
    inside : place s i < b
    inside = omega (arith, r.stride, r.behind, mul-le-mul_left {m = 4 * i + 3} {n = n} s (omega (arith, r.quarters)))

    not_first : 1 ≤ place s i
    not_first = omega (arith, r.stride, mul-le-mul_left {m = 1} {n = 2 * i + 1} s (omega arith))

    first : word after (place s i) ≡ paired n s (word before) (2 * i + 1)
    first = run.low (place s i) inside ∙ sym (paired_odd n s (word before) r.quarters i h)

    second : word after (place s i - 1) ≡ paired n s (word before) (n - 2 * i - 1)
    second = run.low (place s i - 1) (omega (arith, inside)) ∙ sym (paired_mirror n s (word before) r.quarters i h)
