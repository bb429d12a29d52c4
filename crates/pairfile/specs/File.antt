-- Document 01, "The pair file": what the bytes of a file mean, and when a file is turned down.
use Rattle.std.specs.Prelude.{Bool, not, cond, ◌||◌, List, [], ◌∷◌, ℕ, ◌+◌, ◌*◌, eqb, ltb, length}
use Rattle.words.specs.Words.{Samples}
use Rattle.lengths.specs.Block.{is_length}
use Rattle.refusals.specs.Refusals.{some_below, Verdict, refused, accepted, first_out_in}
use Rattle.little_endian.specs.Numbers.{unsigned, signed}

-- ---- "Sizes first: sample count m (32 bits unsigned), block length N (32 bits unsigned)."
abbrev pub sample_count : List ℕ → ℕ
sample_count file = unsigned file 0

abbrev pub block_length : List ℕ → ℕ
block_length file = unsigned file 4

-- ---- "Then two parallel arrays of m signed 32-bit samples, a then b." The samples of an array that begins at a byte
abbrev pub samples_at : List ℕ → ℕ → Samples
samples_at file start n = signed (unsigned file (start + 4 * n))

abbrev pub start_of_a : ℕ
start_of_a = 8

abbrev pub start_of_b : ℕ → ℕ
start_of_b m = 8 + 4 * m

abbrev pub samples_of_a : List ℕ → Samples
samples_of_a file = samples_at file start_of_a

abbrev pub samples_of_b : List ℕ → Samples
samples_of_b file = samples_at file (start_of_b (sample_count file))

-- ---- 7: "file below 8 bytes"; 8: "m is 0 or above 4,096"; 9: "file length is not 8 + 8m"
abbrev pub header_bytes : ℕ
header_bytes = 8

abbrev pub most_samples : ℕ
most_samples = 4096

abbrev pub bad_count : ℕ → Bool
bad_count m = eqb m 0 || ltb most_samples m

abbrev pub file_bytes : ℕ → ℕ
file_bytes m = 8 + 8 * m

-- "A file tests 7, 8, 9, 1, 3, then 6 over all m samples of a and then of b." 3: "for a file, a lent recording is shorter than m";
-- `lent` are the lengths of the recordings
unfoldable pub file_verdict : List ℕ → List ℕ → Verdict
file_verdict file lent =
    cond (ltb (length file) header_bytes) (refused 7)
    (cond (bad_count (sample_count file)) (refused 8)
    (cond (not (eqb (length file) (file_bytes (sample_count file)))) (refused 9)
    (cond (not (is_length (block_length file))) (refused 1)
    (cond (some_below (sample_count file) lent) (refused 3)
    (first_out_in (samples_of_a file ∷ samples_of_b file ∷ []) 0 (sample_count file) accepted)))))
