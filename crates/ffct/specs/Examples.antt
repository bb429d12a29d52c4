-- Document 01, "Blocks to try": P1 to P10 as a table, and what it means that an example holds. proofs/Examples covers the table by one
-- statement.
use Rattle.std.specs.Prelude.{◌≡◌, List, [], ◌∷◌, ℕ, zero, suc, ◌/◌, ◌+◌, ◌^◌, ℤ, pos, negsuc}
use Rattle.words.specs.Words.{Samples, word}
use Rattle.ffct.specs.Transforms.{dct, spectrum}

-- an example: a block of 2 ^ L samples with what Spectrum or the DCT gives, or what every block of 2 ^ L samples costs
pub data Example : Type 0 where
  spectrum_gives : (L : ℕ) (block cosine sine : List ℤ) → Example
  dct_gives : (L : ℕ) (block coefficients : List ℤ) → Example
  dct_costs : (L products sums : ℕ) → Example
  spectrum_costs : (L products sums : ℕ) → Example

-- f 0, f 1, .. f (n - 1) stand before rest
unfoldable pub values : ℕ → (ℕ → ℤ) → List ℤ → List ℤ
values zero f rest = rest
values (suc n) f rest = values n f (f n ∷ rest)

abbrev pub Holds : Example → Type 0
Holds (spectrum_gives L block cosine sine) =
    (values (2 ^ L / 2 + 1) (spectrum L (word block)).cosine [] ≡ cosine)
    × (values (2 ^ L / 2 + 1) (spectrum L (word block)).sine [] ≡ sine)
Holds (dct_gives L block coefficients) = values (2 ^ L) (dct L (word block)).at [] ≡ coefficients
Holds (dct_costs L products sums) = (x : Samples) → ((dct L x).products ≡ products) × ((dct L x).sums ≡ sums)
Holds (spectrum_costs L products sums) = (x : Samples) → ((spectrum L x).products ≡ products) × ((spectrum L x).sums ≡ sums)

abbrev pub All : List Example → Type 0
All [] = Unit {0}
All (e ∷ es) = Holds e × All es

-- −n
abbrev minus : ℕ → ℤ
minus zero = pos 0
minus (suc n) = negsuc n

abbrev one : ℤ
one = pos 1

abbrev million : ℤ
million = pos 1000000

abbrev pub examples : List Example
examples =
    -- P1: 7 gives C 7, S 0, DCT 7
    spectrum_gives 0 (pos 7 ∷ []) (pos 7 ∷ []) (pos 0 ∷ [])
    ∷ dct_gives 0 (pos 7 ∷ []) (pos 7 ∷ [])
    -- P2: 1, 2, 3, 4 gives C 10, −2, −2 and S 0, −2, 0
    ∷ spectrum_gives 2 (pos 1 ∷ pos 2 ∷ pos 3 ∷ pos 4 ∷ []) (pos 10 ∷ minus 2 ∷ minus 2 ∷ []) (pos 0 ∷ minus 2 ∷ pos 0 ∷ [])
    -- P3: the same gives DCT 10, −3, 0, 0
    ∷ dct_gives 2 (pos 1 ∷ pos 2 ∷ pos 3 ∷ pos 4 ∷ []) (pos 10 ∷ minus 3 ∷ pos 0 ∷ pos 0 ∷ [])
    -- P4: 3, 1 gives DCT 4, 1. P5: 0, 1 gives DCT 1, −1. P6: −1, 1 gives DCT 0, −1
    ∷ dct_gives 1 (pos 3 ∷ pos 1 ∷ []) (pos 4 ∷ pos 1 ∷ [])
    ∷ dct_gives 1 (pos 0 ∷ pos 1 ∷ []) (pos 1 ∷ minus 1 ∷ [])
    ∷ dct_gives 1 (minus 1 ∷ pos 1 ∷ []) (pos 0 ∷ minus 1 ∷ [])
    -- P7: N = 8, 1,000,000 at n = 0, else 0: C all 1,000,000, S all 0
    ∷ spectrum_gives 3 (million ∷ []) (million ∷ million ∷ million ∷ million ∷ million ∷ []) (pos 0 ∷ pos 0 ∷ pos 0 ∷ pos 0 ∷ pos 0 ∷ [])
    -- P8: the same at n = 1: C 1000000, 707107, 0, −707107, −1000000; S 0, 707107, 1000000, 707107, 0
    ∷ spectrum_gives 3 (pos 0 ∷ million ∷ [])
    (million ∷ pos 707107 ∷ pos 0 ∷ minus 707107 ∷ minus 1000000 ∷ [])
    (pos 0 ∷ pos 707107 ∷ million ∷ pos 707107 ∷ pos 0 ∷ [])
    -- P9: a DCT of N = 8 reports 12 and 29
    ∷ dct_costs 3 12 29
    -- P10: Spectrum of N = 1,024 reports 3,586 and 12,804
    ∷ spectrum_costs 10 3586 12804
    ∷ []
