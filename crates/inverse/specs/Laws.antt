-- What is proved of the inverse DCT, as statements: each is proved for all blocks in proofs/.
use Rattle.std.specs.Prelude.{ℕ, ◌^◌, ◌≤◌, ◌<◌, ℤ, nat_abs, ◌-ℤ◌}
use Rattle.std.specs.Int.{w32}
use Rattle.std.proofs.Common.{SFits}
use Rattle.words.specs.Words.{Samples}
use Rattle.ffct.specs.Transforms.{dct}
use Rattle.inverse.specs.Inverse.{inverse_dct, largest_coefficient}

-- every value of an accepted block of N coefficients fits a signed word of 32 bits, as samples do
abbrev pub ValuesFit : ℕ → (ℕ → ℤ) → Type 0
ValuesFit N c = (n : ℕ) → n < N → SFits w32 (inverse_dct N c n)

-- "A block sent through Cosine and back returns each sample within N.": of the block x of N = 2 ^ L samples
pub record RoundTrip (L : ℕ) (x : Samples) : Type 0 where
  -- no coefficient of its DCT is refused by 10
  pub stored : (k : ℕ) → k < 2 ^ L → nat_abs ((dct L x).at k) ≤ largest_coefficient (2 ^ L)
  pub back : (n : ℕ) → n < 2 ^ L → nat_abs (inverse_dct (2 ^ L) (dct L x).at n -ℤ x n) ≤ 2 ^ L
