-- The length of a month, by the mark in its word 0.
-- Assumes nothing.
use mathlib.Core.Path.{◌≡◌, refl, sym, ap, ◌∙◌}
use mathlib.Core.Bool.{Bool, true, false, not, cond, true≢false}
use mathlib.Core.List.{List}
use mathlib.Core.Logic.{⊎_elim}
use Prim.Native.Nat.{ℕ, ◌-◌, ◌≤◌}
use lib.Dec.{eqb}
use borrow.Author.Tests.{ne_eqb}
use native.Mathlib.Omega.{arith}
use lib.IntN.{ℤ, pos, negsuc}
use Rattle.std.specs.Prelude.{Option, Some, None}
use Rattle.std.specs.Option.{option_eq}
use Rattle.whole.proofs.Cases.{same_or_not}
use Rattle.words.specs.Words.{word}
use Rattle.lengths.specs.Block.{is_length}
use Rattle.lengths.proofs.ElevenLengths.{length_le}
use Rattle.months.specs.Months.{marked, length_in, length_of, LengthTold, other_length}

-- ---- a length that is not 0 is one of the eleven
some_length : (b : Bool) (n : ℕ) → is_length n ≡ b → (cond b n 0 ≡ 0 → ⊥) → is_length (cond b n 0) ≡ true
some_length true n e h = e
some_length false n e h = absurd (h refl)

in_some : (z : ℤ) → (length_in z ≡ 0 → ⊥) → is_length (length_in z) ≡ true
in_some (pos n) h = some_length (is_length (n - marked 0)) (n - marked 0) refl h
in_some (negsuc n) h = absurd (h refl)

pub length_some : (month : List ℤ) → (length_of month ≡ 0 → ⊥) → is_length (length_of month) ≡ true
unfolding length_of
length_some month h = in_some (word month 0) h

pub length_small : (month : List ℤ) → length_of month ≤ 1024
length_small month = ⊎_elim (λ e. omega arith) (λ h. length_le (length_of month) (length_some month h)) (same_or_not (length_of month) 0)

-- ---- the length, or none
no_length : is_length 0 ≡ false
unfolding is_length
no_length = refl

pub length_positive : {n : ℕ} → is_length n ≡ true → n ≡ 0 → ⊥
length_positive is e = true≢false (sym (rw e at is) ∙ no_length)

pub other_told : (month : List ℤ) (told : Option ℕ) (N : ℕ) → LengthTold month told
    → not (option_eq eqb told (Some N)) ≡ other_length month N
other_told month (Some n) N (e, is) = rw (e, ne_eqb n 0 (length_positive is)) refl
other_told month None N e = rw e refl

-- ---- it stays where the word stays
pub length_same : (month month' : List ℤ) → word month' 0 ≡ word month 0 → length_of month' ≡ length_of month
unfolding length_of
length_same month month' e = ap length_in e

-- ---- a month that is begun
pub length_begun : (b : Bool) (N : ℕ) (words : List ℤ) → is_length N ≡ b → word words 0 ≡ pos (cond b (marked N) 0)
    → length_of words ≡ cond b N 0
unfolding length_of is_length
length_begun true N words e is = let left : marked N - marked 0 ≡ N = omega arith in rw is (rw (left, e) refl)
length_begun false N words e is = rw is refl
