-- The lines of `pairspec`: how wide they are, what each call of `put_refusal`, `put_line` and `put_lines` asks, and what they come to.
-- Assumes nothing.
use mathlib.Core.Path.{◌≡◌, ap₂, ◌∙◌}
use mathlib.Core.List.{List, ◌++◌, append_assoc}
use Prim.Native.Nat.{ℕ, ◌+◌, ◌*◌, ◌^◌, ◌≤◌, ◌<◌}
use native.Mathlib.Omega.{arith}
use lib.IntN.{ℤ}
use lib.ListN.{length, take, length-append}
use lib.Seq.{length-take-le}
use mir.Syntax.{w32}
use mir.Val.{SFits}
use mir.Facts.{to_z-of_z}
use Rattle.std.proofs.lemmas.Grind.{common_steps}
use Rattle.std.proofs.lemmas.List.{get_or-take}
use Rattle.words.specs.Words.{Samples, word}
use Rattle.words.specs.Put.{Put}
use Rattle.words.proofs.Putting.{◌then◌, joined_none, joined_more, joined_same}
use Rattle.text.specs.Decimal.{space, line_feed, number, decimal}
use Rattle.text.proofs.Spelling.{number_length, decimal_length}
use Rattle.text.proofs.Runs.{held}
use Rattle.report.specs.Lines.{line, lines}

-- ---- how wide a line is
line_length :
    {block k : ℕ} (re im : ℤ) → block < 10000 → k < 10000 → SFits w32 re → SFits w32 im → length (line block k re im) ≤ 34
unfolding line
line_length {block} {k} re im b c f g =
    simp length-append (omega (arith, number_length 3 block b, number_length 3 k c, decimal_length re f, decimal_length im g))

-- the same of the numbers that the parameters of a line hold
pub short_line : (block k : ℕ) (re im : ℤ) → block < 10000 → k < 10000 → SFits w32 re → SFits w32 im
    → length (line block k (held re) (held im)) ≤ 34
short_line block k re im b c f g = rw (to_z-of_z f, to_z-of_z g) (line_length {k = k} re im b c f g)

-- a number of 32 bits has at most 10 digits
pub ten_digits : (n : ℕ) → n < 2 ^ 32 → length (number n) ≤ 10
ten_digits n h = number_length 9 n (omega arith)

-- ---- a line: its four numbers, and what ends each
module _ (block k : ℕ) (re im : ℤ) (f : SFits w32 re) (g : SFits w32 im) where
  in_parts : line block k re im ≡ (number block ++ space) ++ (number k ++ space) ++ (decimal (held re) ++ space) ++
      (decimal (held im) ++ line_feed)
  unfolding line
  in_parts = rw (to_z-of_z f, to_z-of_z g) (simp append_assoc)

  pub parts_length : length (line block k re im)
      ≡ length (number block ++ space) + length (number k ++ space) + length (decimal (held re) ++ space) + length
      (decimal (held im) ++ line_feed)
  parts_length = rw in_parts (simp length-append (omega arith))

  pub line_put : {at r₁ r₂ r₃ r₄ : ℕ} {page page₁ page₂ page₃ page₄ : List ℕ} → Put page at (number block ++ space) r₁ page₁
      → Put page₁ r₁ (number k ++ space) r₂ page₂ → Put page₂ r₂ (decimal (held re) ++ space) r₃ page₃
      → Put page₃ r₃ (decimal (held im) ++ line_feed) r₄ page₄ → Put page at (line block k re im) r₄ page₄
  line_put p₁ p₂ p₃ p₄ = rw in_parts (p₁ then p₂ then p₃ then p₄)

-- what the check tries
pub ruleset refusal_parts = (common_steps, ten_digits, ◌then◌)

pub ruleset line_parts = (common_steps, parts_length)

pub ruleset lines_put = (common_steps, short_line)

-- ---- the lines of a block: none yet, one more, and all
pub record LinesPut (block : ℕ) (re im : Samples) (k : ℕ) (page : List ℕ) (at next : ℕ) (page₁ : List ℕ) : Type 0 where
  pub put : Put page at (lines block re im k) next page₁
  pub fits : next ≤ at + 34 * k

module _ (block : ℕ) (re im : Samples) {at : ℕ} {page : List ℕ} where
  pub no_lines : at ≤ length page → LinesPut block re im 0 page at at page
  no_lines room = record { put = joined_none _ room; fits = omega arith }

  module _ (k : ℕ) {r : ℕ} {page₁ : List ℕ} (p : LinesPut block re im k page at r page₁) (h : k < 1024) (b : block < 10000) where
    pub line_more : {q : ℕ} {page₂ : List ℕ} → Put page₁ r (line block k (held (re k)) (held (im k))) q page₂
        → SFits w32 (re k) → SFits w32 (im k) → LinesPut block re im (k + 1) page at q page₂
    line_more l f g =
        let next = rw (to_z-of_z f, to_z-of_z g) at l in
        let width = line_length {k = k} (re k) (im k) b (omega arith) f g in
        record { put = joined_more _ k p.put next; fits = omega (arith, next.next_is, p.fits, width) }

-- equal coefficients have equal lines
lines_same : (block : ℕ) (f f' g g' : Samples) (n : ℕ) → ((k : ℕ) → k < n → f k ≡ f' k) → ((k : ℕ) → k < n → g k ≡ g' k)
    → lines block f g n ≡ lines block f' g' n
lines_same block f f' g g' n e d = joined_same _ _ n (λ k h. ap₂ (line block k) (e k h) (d k h))

-- the lines of the first n words are those of n equal coefficients
pub front_lines : (block n : ℕ) (re im : List ℤ) (f g : Samples) → n ≤ length re → ((k : ℕ) → k < n → word re k ≡ f k)
    → ((k : ℕ) → k < n → word im k ≡ g k)
    → lines block (word (take n re)) (word (take n im)) (length (take n re)) ≡ lines block f g n
front_lines block n re im f g h e d =
    rw (length-take-le n re h)
    (lines_same block _ _ _ _ n (λ k l. get_or-take n re k _ l ∙ e k l) (λ k l. get_or-take n im k _ l ∙ d k l))
