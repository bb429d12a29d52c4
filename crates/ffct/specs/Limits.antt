-- What is proved of the definitions, as statements: demand 3 and the sizes of coefficients for every accepted block (proofs/Limits, Sizes),
-- the counts and the largest rest for every block (proofs/Counts, Rests).
use Rattle.std.specs.Prelude.{◌≡◌, ℕ, ◌/◌, ◌^◌, ◌≤◌, ◌<◌, pos}
use Rattle.std.specs.Int.{w32}
use Rattle.std.proofs.Common.{SFits}
use Rattle.words.specs.Words.{Samples}
use Rattle.ffct.specs.Exact.{exact_cosine, exact_sine, exact_dct, exact_real, exact_imaginary, eighth, quarter_of_next, quarter, Within}
use Rattle.ffct.specs.Transforms.{cosine_dft, sine_dft, dct, spectrum, pair}
use Rattle.ffct.specs.Counts.{dct_products, dct_sums, spectrum_products, spectrum_sums, pair_products, pair_sums}

-- every coefficient of the block x of N = 2 ^ L samples is within its limit of its own exact sum
pub record Limits (L : ℕ) (x : Samples) : Type 0 where
  pub cosine : (k : ℕ) → k ≤ 2 ^ L / 2 → Within (eighth (2 ^ L)) ((cosine_dft L x).at k) (exact_cosine (2 ^ L) x k)
  pub sine : (k : ℕ) → k ≤ 2 ^ L / 2 → Within (eighth (2 ^ L)) ((sine_dft L x).at k) (exact_sine (2 ^ L) x k)
  pub dct : (k : ℕ) → k < 2 ^ L → Within (quarter_of_next (2 ^ L)) ((dct L x).at k) (exact_dct (2 ^ L) x k)

pub record PairLimits (L : ℕ) (a b : Samples) : Type 0 where
  pub real : (k : ℕ) → k < 2 ^ L → Within (quarter (2 ^ L)) ((pair L a b).real k) (exact_real (2 ^ L) a b k)
  pub imaginary : (k : ℕ) → k < 2 ^ L → Within (quarter (2 ^ L)) ((pair L a b).imaginary k) (exact_imaginary (2 ^ L) a b k)

-- "Samples and coefficients are signed 32-bit.": every coefficient fits such a word
pub record CoefficientsFit (L : ℕ) (x : Samples) : Type 0 where
  pub cosine : (k : ℕ) → k ≤ 2 ^ L / 2 → SFits w32 ((cosine_dft L x).at k)
  pub sine : (k : ℕ) → k ≤ 2 ^ L / 2 → SFits w32 ((sine_dft L x).at k)
  pub dct : (k : ℕ) → k < 2 ^ L → SFits w32 ((dct L x).at k)

pub record PairFits (L : ℕ) (a b : Samples) : Type 0 where
  pub real : (k : ℕ) → k < 2 ^ L → SFits w32 ((pair L a b).real k)
  pub imaginary : (k : ℕ) → k < 2 ^ L → SFits w32 ((pair L a b).imaginary k)

-- "The length alone decides the counts.": two blocks of 2 ^ L samples cost the same, in Pair each with any second block
pub record SameCounts (L : ℕ) (x y : Samples) : Type 0 where
  pub cosine_p : (cosine_dft L x).products ≡ (cosine_dft L y).products
  pub cosine_s : (cosine_dft L x).sums ≡ (cosine_dft L y).sums
  pub sine_p : (sine_dft L x).products ≡ (sine_dft L y).products
  pub sine_s : (sine_dft L x).sums ≡ (sine_dft L y).sums
  pub dct_p : (dct L x).products ≡ (dct L y).products
  pub dct_s : (dct L x).sums ≡ (dct L y).sums
  pub spectrum_p : (spectrum L x).products ≡ (spectrum L y).products
  pub spectrum_s : (spectrum L x).sums ≡ (spectrum L y).sums
  pub pair_p : (a b : Samples) → (pair L x a).products ≡ (pair L y b).products
  pub pair_s : (a b : Samples) → (pair L x a).sums ≡ (pair L y b).sums

-- the counts that the recursion carries are the published ones: the DCT's from N = 1, Spectrum's and Pair's from N = 2. "N = 1 costs
-- nothing": there the published forms of Spectrum and Pair are wrong
pub record PublishedCounts (L : ℕ) : Type 0 where
  pub dct_p : (x : Samples) → pos (dct L x).products ≡ dct_products L
  pub dct_s : (x : Samples) → pos (dct L x).sums ≡ dct_sums L
  pub spectrum_p : (x : Samples) → 1 ≤ L → pos (spectrum L x).products ≡ spectrum_products L
  pub spectrum_s : (x : Samples) → 1 ≤ L → pos (spectrum L x).sums ≡ spectrum_sums L
  pub pair_p : (a b : Samples) → 1 ≤ L → pos (pair L a b).products ≡ pair_products L
  pub pair_s : (a b : Samples) → 1 ≤ L → pos (pair L a b).sums ≡ pair_sums L
  pub spectrum_at_one : (x : Samples) → L ≡ 0 → ((spectrum L x).products ≡ 0) × ((spectrum L x).sums ≡ 0)
  pub pair_at_one : (a b : Samples) → L ≡ 0 → ((pair L a b).products ≡ 0) × ((pair L a b).sums ≡ 0)

-- no rest is larger than 2^29; nothing is rounded by the DCT of one sample, nor by Spectrum and Pair of fewer than 8
pub record RestLimits (L : ℕ) (x : Samples) : Type 0 where
  pub dct_small : (dct L x).largest_rest ≤ 2 ^ 29
  pub spectrum_small : (spectrum L x).largest_rest ≤ 2 ^ 29
  pub pair_small : (y : Samples) → (pair L x y).largest_rest ≤ 2 ^ 29
  pub dct_none : L ≡ 0 → (dct L x).largest_rest ≡ 0
  pub spectrum_none : 2 ^ L < 8 → (spectrum L x).largest_rest ≡ 0
  pub pair_none : (y : Samples) → 2 ^ L < 8 → (pair L x y).largest_rest ≡ 0
