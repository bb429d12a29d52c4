-- The counts of a length. "The length alone decides the counts": they are those of every block of the length.
use Rattle.std.specs.Prelude.{true, ◌≡◌, ℕ, ◌/◌, ◌≤◌, pos}
use Rattle.words.specs.Words.{Samples}
use Rattle.lengths.specs.Block.{is_length, level}
use Rattle.ffct.specs.Transforms.{Transform, cosine_dft, sine_dft, dct, spectrum, pair}
use Rattle.ffct.specs.Counts.{dct_products, dct_sums, spectrum_products, spectrum_sums, pair_products, pair_sums}
use Rattle.counts.specs.declared.cost.Cost.{Cost}
use Rattle.counts.specs.declared.Counts.{Counts}

-- the cost is that of a transform of level L
pub record Costs (transform : ℕ → Samples → Transform) (L : ℕ) (cost : Cost) : Type 0 where
  pub products : (x : Samples) → cost.products ≡ (transform L x).products
  pub sums : (x : Samples) → cost.sums ≡ (transform L x).sums

-- the counts of the cosine-DFT and the sine-DFT of n samples, n a length from 2 on, and of the DCT of half as many
pub record LevelCosts (n : ℕ) (cosine sine half_dct : Cost) : Type 0 where
  pub length_ok : is_length n ≡ true
  pub some : 2 ≤ n
  pub of_cosine : Costs cosine_dft (level n) cosine
  pub of_sine : Costs sine_dft (level n) sine
  pub of_dct : Costs dct (level (n / 2)) half_dct

-- all six counts of the level L, by the definitions
pub record SixCounts (L : ℕ) (counts : Counts) : Type 0 where
  pub of_dct : Costs dct L counts.dct
  pub of_spectrum : (x : Samples) → (counts.spectrum.products ≡ (spectrum L x).products) × (counts.spectrum.sums ≡ (spectrum L x).sums)
  pub of_pair : (x y : Samples) → (counts.pair.products ≡ (pair L x y).products) × (counts.pair.sums ≡ (pair L x y).sums)

-- and by the closed forms, N = 1 apart
pub record SixPublished (N : ℕ) (counts : Counts) : Type 0 where
  pub of_dct : (pos counts.dct.products ≡ dct_products (level N)) × (pos counts.dct.sums ≡ dct_sums (level N))
  pub of_spectrum : 2 ≤ N →
      (pos counts.spectrum.products ≡ spectrum_products (level N)) × (pos counts.spectrum.sums ≡ spectrum_sums (level N))
  pub of_pair : 2 ≤ N → (pos counts.pair.products ≡ pair_products (level N)) × (pos counts.pair.sums ≡ pair_sums (level N))
  pub nothing_at_one : N ≡ 1 →
      (counts.spectrum.products ≡ 0) × (counts.spectrum.sums ≡ 0) × (counts.pair.products ≡ 0) × (counts.pair.sums ≡ 0)
