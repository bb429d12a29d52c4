-- Document 01, "The pair file": all that `pairspec` prints, as bytes, from the bytes of the file.
use Rattle.std.specs.Prelude.{List, [], ◌∷◌, ◌++◌, ◌≡◌, ℕ, ◌+◌, ◌*◌, ◌/◌, take}
use Rattle.words.specs.Words.{Samples}
use Rattle.words.specs.Put.{joined}
use Rattle.lengths.specs.Block.{level}
use Rattle.ffct.specs.Transforms.{PairSpectrum, pair}
use Rattle.refusals.specs.Refusals.{Verdict, refused_at, accepted}
use Rattle.pairfile.specs.File.{sample_count, block_length, samples_of_a, samples_of_b, most_samples, file_verdict}
use Rattle.pairfile.specs.Laws.{first_bytes}
use Rattle.report.specs.Lines.{heading, refusal, lines}

-- block number i of two recordings, by Pair
abbrev pub pair_at : ℕ → Samples → Samples → ℕ → PairSpectrum
pair_at N a b i = pair (level N) (λ n. a (i * N + n)) (λ n. b (i * N + n))

-- "a line for each block and k": the lines of block number i, and those of the blocks 0 .. count - 1
abbrev pub lines_at : ℕ → Samples → Samples → ℕ → List ℕ
lines_at N a b i = lines i (pair_at N a b i).real (pair_at N a b i).imaginary N

abbrev pub block_lines : ℕ → Samples → Samples → ℕ → List ℕ
block_lines N a b count = joined (lines_at N a b) count

-- "A tail shorter than N is left out of the blocks; if m is below N there is no block."
abbrev pub block_count : ℕ → ℕ → ℕ
block_count m N = m / N

abbrev pub spectra : ℕ → ℕ → Samples → Samples → List ℕ
spectra m N a b = heading ++ block_lines N a b (block_count m N)

-- "For a refusal it prints one line only": the number alone, also for 6
abbrev pub printed : List ℕ → Verdict → List ℕ
printed file (refused_at number place) = refusal number
printed file accepted = spectra (sample_count file) (block_length file) (samples_of_a file) (samples_of_b file)

-- `pairspec` lends the reader two recordings of 4,096 words, so that 3 never holds
unfoldable pub output : List ℕ → List ℕ
output file = printed file (file_verdict file (most_samples ∷ most_samples ∷ []))

-- proved in proofs/Outputs: for a longer file it prints what it prints for the first 32,777 bytes, which is all that it reads
abbrev pub LongerOutput : Type 0
LongerOutput = (file : List ℕ) → output (take first_bytes file) ≡ output file
