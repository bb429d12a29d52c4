-- Document 01, "The pair file": the lines that `pairspec` prints, as bytes. "Every line printed ends in one line feed."
use Rattle.std.specs.Prelude.{List, [], ◌∷◌, ◌++◌, ℕ, ℤ}
use Rattle.words.specs.Words.{Samples}
use Rattle.words.specs.Put.{joined}
use Rattle.text.specs.Decimal.{space, line_feed, number, decimal}

-- "the line `block k re im`": b l o c k, k, r e, i m, with spaces (32) between them, and the line feed
abbrev pub heading : List ℕ
heading = 98 ∷ 108 ∷ 111 ∷ 99 ∷ 107 ∷ 32 ∷ 107 ∷ 32 ∷ 114 ∷ 101 ∷ 32 ∷ 105 ∷ 109 ∷ 10 ∷ []

-- "For a refusal it prints one line only: `refused`, a space and the number.": r e f u s e d, the space
abbrev pub refusal : ℕ → List ℕ
refusal n = (114 ∷ 101 ∷ 102 ∷ 117 ∷ 115 ∷ 101 ∷ 100 ∷ 32 ∷ []) ++ number n ++ line_feed

-- "block number from 0, k, real part, imaginary part, in decimal with single spaces"
unfoldable pub line : ℕ → ℕ → ℤ → ℤ → List ℕ
line block k re im = number block ++ space ++ number k ++ space ++ decimal re ++ space ++ decimal im ++ line_feed

-- the lines of a block, for k = 0 .. n - 1
abbrev pub lines : ℕ → Samples → Samples → ℕ → List ℕ
lines block re im n = joined (λ k. line block k (re k) (im k)) n
