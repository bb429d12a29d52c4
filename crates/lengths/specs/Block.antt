-- Document 01, "What the logger computes": blocks.
use Rattle.std.specs.Prelude.{Bool, false, cond, ◌||◌, List, [], ◌∷◌, ℕ, suc, ◌+◌, ◌/◌, ◌^◌, ◌<◌, ◌≤◌, eqb, nat_abs}
use Rattle.words.specs.Words.{Samples}

-- "N is the block length: 1, 2, 4, .. 1,024". In the definitions below N is 2 ^ L, and L is the level, 0 .. 10
abbrev pub lengths : List ℕ
lengths = 1 ∷ 2 ∷ 4 ∷ 8 ∷ 16 ∷ 32 ∷ 64 ∷ 128 ∷ 256 ∷ 512 ∷ 1024 ∷ []

abbrev pub top_level : ℕ
top_level = 10

-- whether N is one of them
abbrev pub one_of : ℕ → List ℕ → Bool
one_of N [] = false
one_of N (m ∷ ms) = eqb N m || one_of N ms

unfoldable pub is_length : ℕ → Bool
is_length N = one_of N lengths

-- the level L of a length N = 2 ^ L: its place among the eleven
abbrev pub place_in : ℕ → List ℕ → ℕ
place_in N [] = 0
place_in N (m ∷ ms) = cond (eqb N m) 0 (suc (place_in N ms))

unfoldable pub level : ℕ → ℕ
level N = place_in N lengths

-- "Spectrum yields k = 0 .. N/2 for both transforms (only k = 0 at N = 1)": so many coefficients of each
abbrev pub spectrum_yields : ℕ → ℕ
spectrum_yields N = N / 2 + 1

-- "A sample x(n) is a whole number .., −1,000,000 to 1,000,000."
abbrev pub largest_sample : ℕ
largest_sample = 1000000

-- the largest sum of a block: 1,024 samples of 1,000,000
abbrev pub largest_sum : ℕ
largest_sum = 1024000000

-- "an accepted block": N is one of the eleven lengths, and each of its samples is in range
pub record AcceptedBlock (L : ℕ) (x : Samples) : Type 0 where
  pub level_ok : L ≤ top_level
  pub range : (n : ℕ) → n < 2 ^ L → nat_abs (x n) ≤ largest_sample
