-- Document 02, (vii), "A page for the site binder": the page as the list of its bytes, and when a stored spectrum is turned down.
-- cosine and sine are the stored coefficients, coefficient k at k; N is the block length.
use Rattle.std.specs.Prelude.{cond, List, [], ◌∷◌, ◌++◌, ℕ, ◌+◌, ◌*◌, ltb, ℤ}
use Rattle.words.specs.Put.{joined}
use Rattle.lengths.specs.Block.{spectrum_yields}
use Rattle.refusals.specs.Refusals.{Verdict, refused, accepted}
use Rattle.refusals.specs.Calls.{stored_tests}
use Rattle.text.specs.Decimal.{space, line_feed, number, decimal}
use Rattle.text.specs.Alignment.{right_aligned}

-- "Columns are k in 4, cosine in 12 and sine in 12, right aligned, with one space between." A line is "30 columns and a line feed"
unfoldable pub columns : (k cosine sine : List ℕ) → List ℕ
columns k cosine sine = right_aligned 4 k ++ space ++ right_aligned 12 cosine ++ space ++ right_aligned 12 sine ++ line_feed

-- "The first line holds the words `k`, `cosine` and `sine` in the same columns.": k, c o s i n e, s i n e
unfoldable pub heading : List ℕ
heading = columns (107 ∷ []) (99 ∷ 111 ∷ 115 ∷ 105 ∷ 110 ∷ 101 ∷ []) (115 ∷ 105 ∷ 110 ∷ 101 ∷ [])

-- the line of k: the three numbers in decimal
abbrev pub line : (k : ℕ) → (cosine sine : ℤ) → List ℕ
line k cosine sine = columns (number k) (decimal cosine) (decimal sine)

-- the lines "from k = 0 upwards", of k = 0 .. n - 1
abbrev pub lines : (cosine sine : ℕ → ℤ) → ℕ → List ℕ
lines cosine sine n = joined (λ k. line k (cosine k) (sine k)) n

-- "Under it stands one line for each k that Spectrum yields"
unfoldable pub page : ℕ → (cosine sine : ℕ → ℤ) → List ℕ
page N cosine sine = heading ++ lines cosine sine (spectrum_yields N)

-- "Each line is exactly 31 bytes.": the heading, and a line for each k
abbrev pub page_bytes : ℕ → ℕ
page_bytes N = 31 * (1 + spectrum_yields N)

-- "Order: 1, 2 (fewer coefficients stored than Spectrum yields), 3 for a page buffer too short", on the words that are stored and the
-- bytes that are lent
unfoldable pub page_verdict : (stored : List ℕ) → ℕ → (room : ℕ) → Verdict
page_verdict stored N room =
    stored_tests N (spectrum_yields N) stored (cond (ltb room (page_bytes N)) (refused 3) accepted)
