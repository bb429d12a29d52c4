-- Runs of texts put one behind another: what each call of `put_number` and `put_decimal` asks, and what they come to. Assumes nothing.
use mathlib.Core.Path.{◌≡◌, ◌∙◌}
use mathlib.Core.List.{List, ◌++◌, append_assoc}
use Prim.Native.Nat.{ℕ, ◌+◌, ◌^◌, ◌≤◌, ◌<◌}
use native.Mathlib.Omega.{arith}
use lib.IntN.{ℤ}
use lib.ListN.{length, take}
use mir.Syntax.{w32}
use mir.Val.{to_z, of_z}
use borrow.Rule.Slice.PartMut.{put_mid}
use Rattle.std.proofs.lemmas.Grind.{common_steps}
use Rattle.std.proofs.lemmas.Slice.{drop-put_mid}
use Rattle.io.specs.Digits.{last_digits, IsDigitCount}
use Rattle.text.specs.Decimal.{number}
use Rattle.words.specs.Put.{Put}
use Rattle.words.proofs.Putting.{◌then◌}
use Rattle.text.proofs.Spelling.{digits_number}

-- the number that a signed parameter's bits hold
abbrev pub held : ℤ → ℤ
held x = to_z w32 (of_z w32 x)

-- what the check tries where a part of the page is written
pub ruleset part_written = (common_steps, drop-put_mid)

-- a text, put as a part of the page
pub part_put : (page text part : List ℕ) (at k next : ℕ) → part ≡ text → next ≡ at + length text → k ≡ length text → next ≤ length page
    → Put page at text next (put_mid at k page part)
part_put page text part at k next same is few room =
    grind (arith, part_written)

-- ---- the digits that `io::decimal` writes
pub spelled_out : (out : List ℕ) (k n : ℕ) → n < 2 ^ 64 → IsDigitCount 10 1 n k → take k out ≡ last_digits 10 k n → take k out ≡ number n
spelled_out out k n small few written = written ∙ digits_number k n small few

-- a text whose second part is put together with what ends it
pub parts_put : {page page₁ page₂ front : List ℕ} {at r q : ℕ} (text rest end : List ℕ) → text ≡ front ++ rest → Put page at front r page₁
    → Put page₁ r (rest ++ end) q page₂ → Put page at (text ++ end) q page₂
parts_put text rest end is p k = rw (is, append_assoc) (p then k)

-- what the check tries where texts stand one behind another
pub ruleset runs = (common_steps, spelled_out, ◌then◌)
