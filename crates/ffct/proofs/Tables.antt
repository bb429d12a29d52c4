-- Paper 001, Tables 1 to 5: the FFCT columns, N = 8 .. 1,024, are the counts of the recursion, whatever the samples. The checker computes
-- them. (The paper's last row, N = 2,048, is no accepted length.)
-- Assumes nothing.
use mathlib.Core.Bool.{Bool, true, ◌&&◌}
use mathlib.Core.List.{List, [], ◌∷◌}
use Prim.Native.Nat.{ℕ}
use lib.Dec.{T, eqb}
use Rattle.words.specs.Words.{Samples}
use Rattle.ffct.specs.Transforms.{dct_by, cosine_dft, dct, spectrum, pair}

-- a row: N is 2 ^ L, the products are "real mults" and the sums "real adds"
pub data Row : Type 0 where
  row : (L products sums : ℕ) → Row

-- Tables 1 and 3: the DFT of real data, which is Spectrum
unfoldable pub real_dft : List Row
real_dft =
    row 3 2 20 ∷ row 4 10 60 ∷ row 5 34 164 ∷ row 6 98 420
    ∷ row 7 258 1028 ∷ row 8 642 2436 ∷ row 9 1538 5636 ∷ row 10 3586 12804 ∷ []

-- Tables 2 and 4: the DCT of real data
unfoldable pub real_dct : List Row
real_dct =
    row 3 12 29 ∷ row 4 32 81 ∷ row 5 80 209 ∷ row 6 192 513
    ∷ row 7 448 1217 ∷ row 8 1024 2817 ∷ row 9 2304 6401 ∷ row 10 5120 14337 ∷ []

-- Table 5: the DFT of complex data, which is Pair
unfoldable pub complex_dft : List Row
complex_dft =
    row 3 4 52 ∷ row 4 20 148 ∷ row 5 68 388 ∷ row 6 196 964
    ∷ row 7 516 2308 ∷ row 8 1284 5380 ∷ row 9 3076 12292 ∷ row 10 7172 27652 ∷ []

-- every row has the products and the sums of its level
unfoldable pub agree : (products sums : ℕ → ℕ) → List Row → Bool
agree products sums [] = true
agree products sums (row L p s ∷ rows) = eqb (products L) p && eqb (sums L) s && agree products sums rows

pub tables : (a b : Samples) → T (
    agree (λ L. (spectrum L a).products) (λ L. (spectrum L a).sums) real_dft
    && agree (λ L. (dct L a).products) (λ L. (dct L a).sums) real_dct
    && agree (λ L. (pair L a b).products) (λ L. (pair L a b).sums) complex_dft)
unfolding dct_by cosine_dft dct spectrum pair real_dft real_dct complex_dft agree
tables a b = tt
