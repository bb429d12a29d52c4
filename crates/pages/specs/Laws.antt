-- What is proved of a page, as statements: each is proved for all lengths and all coefficients in proofs/.
use Rattle.std.specs.Prelude.{true, ◌≡◌, ℕ, ◌≤◌, ◌<◌, ℤ, length}
use Rattle.std.specs.Int.{w32}
use Rattle.std.proofs.Common.{SFits}
use Rattle.lengths.specs.Block.{is_length, spectrum_yields}
use Rattle.text.specs.Decimal.{number, decimal}
use Rattle.pages.specs.Page.{heading, line, page, page_bytes}

-- "The widest coefficient fits its column.", and so does the widest k, 512: no text is longer than its column is wide
abbrev pub CoefficientFits : Type 0
CoefficientFits = (c : ℤ) → SFits w32 c → length (decimal c) ≤ 12

abbrev pub IndexFits : Type 0
IndexFits = (k N : ℕ) → is_length N ≡ true → k < spectrum_yields N → length (number k) ≤ 4

-- "Each line is exactly 31 bytes.": the first, that of each k of any coefficients of 32 bits, and so the whole page
abbrev pub LinesOf31 : Type 0
LinesOf31 =
    (length heading ≡ 31)
    × ((k N : ℕ) (c s : ℤ) → is_length N ≡ true → k < spectrum_yields N → SFits w32 c → SFits w32 s → length (line k c s) ≡ 31)

-- coefficients of 32 bits, as a stored spectrum has them
abbrev pub Stored : ℕ → (ℕ → ℤ) → Type 0
Stored N c = (k : ℕ) → k < spectrum_yields N → SFits w32 (c k)

abbrev pub PageLength : Type 0
PageLength = (N : ℕ) (c s : ℕ → ℤ) → is_length N ≡ true → Stored N c → Stored N s → length (page N c s) ≡ page_bytes N

-- the page reads back: one page is that of one length, and of one coefficient of each kind at each k
abbrev pub ReadsBack : Type 0
ReadsBack =
    (N M : ℕ) (c s d t : ℕ → ℤ) → is_length N ≡ true → is_length M ≡ true → Stored N c → Stored N s → Stored M d → Stored M t
    → page N c s ≡ page M d t
    → (N ≡ M) × ((k : ℕ) → k < spectrum_yields N → (c k ≡ d k) × (s k ≡ t k))
