-- What the functions on an accepted block ask and promise: n is the block's length, x are its samples, w the words that a call lends for
-- the work, all of which are cleared at the end.
use Rattle.std.specs.Prelude.{true, List, ◌≡◌, ℕ, ◌+◌, ◌*◌, ◌/◌, ◌≤◌, ◌<◌, ℤ, pos, nat_abs, length}
use Rattle.words.specs.Words.{Samples, word, Written}
use Rattle.lengths.specs.Block.{largest_sample, is_length, level}
use Rattle.ffct.specs.Transforms.{Transform, Spectrum, PairSpectrum, spectrum as spectrum_of}
use Rattle.counts.specs.declared.tally.Tally.{Tally}
use Rattle.counts.specs.Tally.{Tallied, HasRoom}
use Rattle.transforms.specs.Steps.{dft_room}
use Rattle.blocks.specs.Buffers.{words_from}

-- a block of one of the eleven lengths, its samples in range
pub record InRange (n : ℕ) (x : Samples) : Type 0 where
  pub length_ok : is_length n ≡ true
  pub range : (i : ℕ) → i < n → nat_abs (x i) ≤ largest_sample

-- a block and words to work in: Pair of n samples takes 3 n + 4 words and 3 for each DCT sample behind them
pub record Workable (n : ℕ) (block w : List ℤ) : Type 0 where
  pub whole : n ≤ length block
  pub block_ok : InRange n (word block)
  pub room : 4 * n + 64 ≤ length w

abbrev pub Cleared : List ℤ → List ℤ → Type 0
Cleared w w' = Written 0 (length w) (λ k. pos 0) w w'

-- both DFTs of a block, the cosine-DFT at `at`, behind the block's room, and the sine-DFT behind it; words between the block's room and
-- `at` are as before. The words below and behind are the program's choice; their number stays
pub record DftsReady (n : ℕ) (x : Samples) (at : ℕ) (w : List ℤ) (spent : Tally) : Type 0 where
  pub block_ok : InRange n x
  pub behind : n ≤ at
  pub fits : at + (n / 2 + 1) + dft_room n ≤ length w
  pub room : HasRoom (spectrum_of (level n) x).products (spectrum_of (level n) x).sums spent

pub record DftsMade (n : ℕ) (x : Samples) (at : ℕ) (w w' : List ℤ) (spent total : Tally) : Type 0 where
  pub cosine_words : (k : ℕ) → k < n / 2 + 1 → words_from w' at k ≡ (spectrum_of (level n) x).cosine k
  pub sine_words : (k : ℕ) → k < n / 2 + 1 → words_from w' (at + n / 2 + 1) k ≡ (spectrum_of (level n) x).sine k
  pub between : (k : ℕ) → n ≤ k → k < at → word w' k ≡ word w k
  pub tallied :
      let t = spectrum_of (level n) x in
      Tallied t.products t.sums t.largest_rest spent total
  pub len : length w' ≡ length w

-- ---- coefficients of n samples put into buffers, the words to work in cleared, and what is tallied
pub record SpectrumMade (n : ℕ) (t : Spectrum) (cosine sine w cosine' sine' w' : List ℤ) (spent : Tally) : Type 0 where
  pub cosine_words : Written 0 (n / 2 + 1) t.cosine cosine cosine'
  pub sine_words : Written 0 (n / 2 + 1) t.sine sine sine'
  pub cleared : Cleared w w'
  pub tallied : (spent.products ≡ t.products) × (spent.sums ≡ t.sums)
  pub rest : spent.largest_rest ≡ t.largest_rest

pub record CosineMade (n : ℕ) (t : Transform) (coefficients w coefficients' w' : List ℤ) (spent : Tally) : Type 0 where
  pub words : Written 0 n t.at coefficients coefficients'
  pub cleared : Cleared w w'
  pub tallied : (spent.products ≡ t.products) × (spent.sums ≡ t.sums)
  pub rest : spent.largest_rest ≡ t.largest_rest

pub record PairMade (n : ℕ) (t : PairSpectrum) (real imaginary w real' imaginary' w' : List ℤ) (spent : Tally) : Type 0 where
  pub real_words : Written 0 n t.real real real'
  pub imaginary_words : Written 0 n t.imaginary imaginary imaginary'
  pub cleared : Cleared w w'
  pub tallied : (spent.products ≡ t.products) × (spent.sums ≡ t.sums)
  pub rest : spent.largest_rest ≡ t.largest_rest
