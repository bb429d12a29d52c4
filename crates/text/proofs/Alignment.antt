-- Texts in columns: the width of a right-aligned text, and what each call of `put_right` and `put_column` asks, and what they come to.
-- Assumes nothing.
use mathlib.Core.Path.{◌≡◌, ◌∙◌}
use mathlib.Core.List.{List, [], ◌++◌, append-nil}
use Prim.Native.Nat.{ℕ, ◌+◌, ◌-◌, ◌≤◌}
use native.Mathlib.Omega.{arith}
use lib.IntN.{ℤ}
use lib.ListN.{length, take, length-append, length-replicate}
use mir.Syntax.{w32}
use mir.Val.{SFits}
use borrow.Rule.Slice.PartMut.{put_mid, mid_of, mid_len}
use mir.Facts.{to_z-of_z}
use Rattle.words.specs.Put.{Put}
use Rattle.words.proofs.Putting.{◌then◌}
use Rattle.text.specs.Decimal.{decimal}
use Rattle.text.specs.Alignment.{spaces, right_aligned}
use Rattle.text.proofs.Runs.{held, part_put}

spaces_length : (n : ℕ) → length (spaces n) ≡ n
spaces_length n = length-replicate {A = ℕ} n 32

pub aligned_length : (width : ℕ) (text : List ℕ) → length text ≤ width → length (right_aligned width text) ≡ width
unfolding right_aligned
aligned_length width text short =
    omega (arith, length-append (spaces (width - length text)) text, spaces_length (width - length text))

pub column_length :
    (width : ℕ) (text end : List ℕ) → length text ≤ width → length (right_aligned width text ++ end) ≡ width + length end
column_length width text end short = length-append (right_aligned width text) end ∙ rw (aligned_length width text short)

-- ---- the spaces before a text, put as a part of the page up to the place `behind`
pub right_put : (width at behind : ℕ) (text page blank : List ℕ) → behind ≡ at + (width - length text) → behind ≤ length page
    → blank ≡ spaces (length (mid_of at (behind - at) page)) → {next : ℕ} {page₁ : List ℕ}
    → Put (put_mid at (behind - at) page blank) behind text next page₁ → Put page at (right_aligned width text) next page₁
unfolding right_aligned
right_put width at behind text page blank ends room are put =
    let long : length (mid_of at (behind - at) page) ≡ width - length text = mid_len at behind page room ∙ omega arith in
    part_put page _ blank at _ behind (rw long at are) (omega (arith, spaces_length (width - length text)))
    (omega (arith, spaces_length (width - length text))) room then put

-- ---- a number in a column: its digits in a buffer of their own, then the column, and what ends it
module _ (x : ℤ) (f : SFits w32 x) where
  module _ (n : ℕ) (buffer digits : List ℕ) (put : Put buffer 0 (decimal (held x) ++ []) n digits) where
    are_digits : take n digits ≡ decimal x
    are_digits = put.front ∙ rw (to_z-of_z f) (append-nil (decimal x))

    pub column_ready : {width : ℕ} → length (decimal x) ≤ width → length (take n digits) ≤ width
    column_ready short = rw are_digits short

    module _ (width : ℕ) (short : length (decimal x) ≤ width) {at r : ℕ} {page page₁ : List ℕ}
        (column : Put page at (right_aligned width (take n digits)) r page₁) where
      pub end_ready : (end : List ℕ) → at + width + length end ≤ length page → r + length end ≤ length page₁
      end_ready end room = omega (arith, aligned_length width (take n digits) (column_ready short))

      pub column_put : {q : ℕ} {page₂ end : List ℕ} → Put page₁ r end q page₂ → Put page at (right_aligned width (decimal x) ++ end) q page₂
      column_put e = (rw are_digits at column) then e
