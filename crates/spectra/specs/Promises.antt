-- What the calls promise, for every input: the verdict, what stays after a refusal, and all that an accepted call leaves behind.
-- N is the length, x the samples of the block, x(0) being the sample at the start. What a buffer holds after the call is marked '.
use Rattle.std.specs.Prelude.{not, cond, List, [], ◌∷◌, ◌≡◌, ℕ, ◌/◌, ◌≤◌, ◌<◌, ℤ, pos, length, Result, Ok}
use Rattle.words.specs.Words.{Samples, word, Written}
use Rattle.lengths.specs.Block.{AcceptedBlock, is_length, level, spectrum_yields}
use Rattle.ffct.specs.Exact.{exact_cosine, exact_sine, exact_dct, exact_real, exact_imaginary, eighth, quarter_of_next, quarter, Within}
use Rattle.ffct.specs.Transforms.{dct as dct_of, spectrum as spectrum_of, pair as pair_of}
use Rattle.ffct.specs.Counts.{dct_products, dct_sums, spectrum_products, spectrum_sums, pair_products, pair_sums}
use Rattle.counts.specs.declared.tally.Tally.{Tally}
use Rattle.counts.specs.declared.Counts.{Counts}
use Rattle.counts.specs.Counts.{SixCounts, SixPublished}
use Rattle.refusals.specs.Refusals.{scratch_words, block, refused, accepted, Promise}
use Rattle.refusals.specs.Calls.{Call, verdict}
use Rattle.refusals.specs.declared.refusal.Refusal.{Refusal}
use Rattle.refusals.specs.Answers.{answered}
use Rattle.spectra.specs.declared.marks.Marked.{Marked}
use Rattle.spectra.specs.Answers.{spent, counts_of, spent_marking}
use Rattle.spectra.specs.Marks.{mark, mark_verdict}

-- ---- what every accepted call spends and clears. Products, sums and the largest rest are those that the definition of its coefficients
-- carries. From a length on the counts are the published closed forms; below it, which is at N = 1 for Spectrum and Pair, the call "costs
-- nothing"
pub record Spends (N allowance products sums largest_rest from : ℕ) (published_products published_sums : ℤ)
    (scratch scratch' : List ℤ) (spent : Tally) : Type 0 where
  pub tallied : (spent.products ≡ products) × (spent.sums ≡ sums)
  pub rest : spent.largest_rest ≡ largest_rest
  pub published : from ≤ N → (pos spent.products ≡ published_products) × (pos spent.sums ≡ published_sums)
  pub nothing_below : N < from → (spent.products ≡ 0) × (spent.sums ≡ 0)
  pub allowed : spent.products ≤ allowance
  pub scratch_cleared : Written 0 (scratch_words N) (λ k. pos 0) scratch scratch'

-- ---- Spectrum. What it is lent: two result buffers and scratch
pub record Buffers : Type 0 where
  pub cosine : List ℤ
  pub sine : List ℤ
  pub scratch : List ℤ

abbrev pub buffers : (cosine sine scratch : List ℤ) → Buffers
buffers cosine sine scratch = record { cosine = cosine; sine = sine; scratch = scratch }

abbrev pub spectrum_call : List ℤ → (start N allowance : ℕ) → Buffers → Call
spectrum_call recording start N allowance lent =
    record {
      lengths = length recording ∷ [];
      samples = word recording ∷ [];
      start = start;
      N = N;
      allowance = allowance;
      results = length lent.cosine ∷ length lent.sine ∷ [];
      yields = spectrum_yields N;
      scratch = length lent.scratch;
      products = (spectrum_of (level N) (block recording start)).products;
    }

-- an accepted call that spends a tally
pub record SpectrumDone (N : ℕ) (x : Samples) (allowance : ℕ) (lent lent' : Buffers) (spent : Tally) : Type 0 where
  pub block : AcceptedBlock (level N) x
  pub cosine_words : Written 0 (spectrum_yields N) (spectrum_of (level N) x).cosine lent.cosine lent'.cosine
  pub sine_words : Written 0 (spectrum_yields N) (spectrum_of (level N) x).sine lent.sine lent'.sine
  pub cosine_near : (k : ℕ) → k ≤ N / 2 → Within (eighth N) (word lent'.cosine k) (exact_cosine N x k)
  pub sine_near : (k : ℕ) → k ≤ N / 2 → Within (eighth N) (word lent'.sine k) (exact_sine N x k)
  pub spends : let t = spectrum_of (level N) x in Spends N allowance t.products t.sums t.largest_rest
      2 (spectrum_products (level N)) (spectrum_sums (level N)) lent.scratch lent'.scratch spent

abbrev pub SpectrumPromise : List ℤ → (start N allowance : ℕ) → (lent lent' : Buffers) → Result Tally Refusal → Type 0
SpectrumPromise recording start N allowance lent lent' answer =
    Promise (answered answer) (verdict (spectrum_call recording start N allowance lent))
    (lent' ≡ lent)
    (SpectrumDone N (block recording start) allowance lent lent' (spent answer))

-- ---- Cosine
abbrev pub cosine_call : List ℤ → (start N allowance : ℕ) → (coefficients scratch : List ℤ) → Call
cosine_call recording start N allowance coefficients scratch =
    record {
      lengths = length recording ∷ [];
      samples = word recording ∷ [];
      start = start;
      N = N;
      allowance = allowance;
      results = length coefficients ∷ [];
      yields = N;
      scratch = length scratch;
      products = (dct_of (level N) (block recording start)).products;
    }

pub record CosineDone (N : ℕ) (x : Samples) (allowance : ℕ)
    (coefficients scratch coefficients' scratch' : List ℤ) (spent : Tally) : Type 0 where
  pub block : AcceptedBlock (level N) x
  pub words : Written 0 N (dct_of (level N) x).at coefficients coefficients'
  pub near : (k : ℕ) → k < N → Within (quarter_of_next N) (word coefficients' k) (exact_dct N x k)
  pub spends : let t = dct_of (level N) x in Spends N allowance t.products t.sums t.largest_rest
      1 (dct_products (level N)) (dct_sums (level N)) scratch scratch' spent

abbrev pub CosinePromise : List ℤ → ℕ → ℕ → ℕ → (coefficients scratch coefficients' scratch' : List ℤ) → Result Tally Refusal → Type 0
CosinePromise recording start N allowance coefficients scratch coefficients' scratch' answer =
    Promise (answered answer) (verdict (cosine_call recording start N allowance coefficients scratch))
    ((coefficients' ≡ coefficients) × (scratch' ≡ scratch))
    (CosineDone N (block recording start) allowance coefficients scratch coefficients' scratch' (spent answer))

-- ---- Pair, recordings a and b. What it is lent: two result buffers and scratch
pub record PairBuffers : Type 0 where
  pub real : List ℤ
  pub imaginary : List ℤ
  pub scratch : List ℤ

abbrev pub pair_buffers : (real imaginary scratch : List ℤ) → PairBuffers
pair_buffers real imaginary scratch = record { real = real; imaginary = imaginary; scratch = scratch }

abbrev pub pair_call : (a b : List ℤ) → (start N allowance : ℕ) → PairBuffers → Call
pair_call a b start N allowance lent =
    record {
      lengths = length a ∷ length b ∷ [];
      samples = word a ∷ word b ∷ [];
      start = start;
      N = N;
      allowance = allowance;
      results = length lent.real ∷ length lent.imaginary ∷ [];
      yields = N;
      scratch = length lent.scratch;
      products = (pair_of (level N) (block a start) (block b start)).products;
    }

pub record PairDone (N : ℕ) (x y : Samples) (allowance : ℕ) (lent lent' : PairBuffers) (spent : Tally) : Type 0 where
  pub block_a : AcceptedBlock (level N) x
  pub block_b : AcceptedBlock (level N) y
  pub real_words : Written 0 N (pair_of (level N) x y).real lent.real lent'.real
  pub imaginary_words : Written 0 N (pair_of (level N) x y).imaginary lent.imaginary lent'.imaginary
  pub real_near : (k : ℕ) → k < N → Within (quarter N) (word lent'.real k) (exact_real N x y k)
  pub imaginary_near : (k : ℕ) → k < N → Within (quarter N) (word lent'.imaginary k) (exact_imaginary N x y k)
  pub spends : let t = pair_of (level N) x y in Spends N allowance t.products t.sums t.largest_rest
      2 (pair_products (level N)) (pair_sums (level N)) lent.scratch lent'.scratch spent

abbrev pub PairPromise : (a b : List ℤ) → (start N allowance : ℕ) → (lent lent' : PairBuffers) → Result Tally Refusal → Type 0
PairPromise a b start N allowance lent lent' answer =
    Promise (answered answer) (verdict (pair_call a b start N allowance lent))
    (lent' ≡ lent)
    (PairDone N (block a start) (block b start) allowance lent lent' (spent answer))

-- ---- the count query: it tests 1 alone, and gives all six counts, by the definitions and by the closed forms
pub record CountsPromise (N : ℕ) (answer : Result Counts Refusal) : Type 0 where
  pub verdict : answered answer ≡ cond (not (is_length N)) (refused 1) accepted
  pub counted : answered answer ≡ accepted → SixCounts (level N) (counts_of answer) × SixPublished N (counts_of answer)

-- ---- the mark of a block. "A new call takes these two signed 32-bit figures beside all that Spectrum takes, and returns the mark with
-- Spectrum's full answer."
pub record MarkDone (flat_limit clip_level : ℤ) (N : ℕ) (x : Samples) (allowance : ℕ) (lent lent' : Buffers)
    (answer : Result Marked Refusal) : Type 0 where
  pub spectrum : SpectrumDone N x allowance lent lent' (spent_marking answer)
  pub marked : let t = spectrum_of (level N) x in answer ≡ Ok (record {
    mark = mark flat_limit clip_level N x t.cosine t.sine;
    spent = spent_marking answer;
  })

abbrev pub MarkPromise : List ℤ → (start N allowance : ℕ) → (flat_limit clip_level : ℤ) → (lent lent' : Buffers)
    → Result Marked Refusal → Type 0
MarkPromise recording start N allowance flat_limit clip_level lent lent' answer =
    Promise (answered answer) (mark_verdict (spectrum_call recording start N allowance lent) flat_limit clip_level)
    (lent' ≡ lent)
    (MarkDone flat_limit clip_level N (block recording start) allowance lent lent' answer)
