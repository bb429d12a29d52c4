-- What the reader and the writer promise, for every input: the verdict, what stays after a refusal, and all that is left behind where a
-- file is read or written. A buffer after the call is marked '.
use Rattle.std.specs.Prelude.{true, List, [], ◌∷◌, ◌≡◌, ℕ, ◌≤◌, ◌<◌, ℤ, nat_abs, length, Result}
use Rattle.words.specs.Words.{Samples, word, Written}
use Rattle.words.specs.Put.{Put}
use Rattle.lengths.specs.Block.{is_length, largest_sample}
use Rattle.refusals.specs.Refusals.{Promise}
use Rattle.refusals.specs.declared.refusal.Refusal.{Refusal}
use Rattle.refusals.specs.Answers.{answered, bytes_of}
use Rattle.pairfile.specs.declared.reader.Sizes.{Sizes}
use Rattle.pairfile.specs.File.{sample_count, block_length, samples_of_a, samples_of_b, most_samples, file_bytes, file_verdict}
use Rattle.pairfile.specs.OwnFile.{pair_file, write_verdict}
use Rattle.pairfile.specs.Answers.{sizes_of}

-- what acceptance says of m, N and the samples of a and b, whether they are read or written
pub record Sound (m N : ℕ) (a b : Samples) : Type 0 where
  pub some : 1 ≤ m
  pub most : m ≤ most_samples
  pub length_ok : is_length N ≡ true
  pub range_of_a : (n : ℕ) → n < m → nat_abs (a n) ≤ largest_sample
  pub range_of_b : (n : ℕ) → n < m → nat_abs (b n) ≤ largest_sample

-- "Reading a file writes its samples to two lent recordings, m words each, and returns m and N; words beyond m stay."
pub record ReadDone (file : List ℕ) (a b a' b' : List ℤ) (m N : ℕ) : Type 0 where
  pub samples_is : m ≡ sample_count file
  pub length_is : N ≡ block_length file
  pub words_of_a : Written 0 m (samples_of_a file) a a'
  pub words_of_b : Written 0 m (samples_of_b file) b b'
  pub sound : Sound m N (samples_of_a file) (samples_of_b file)

abbrev pub ReadPromise : List ℕ → (a b a' b' : List ℤ) → Result Sizes Refusal → Type 0
ReadPromise file a b a' b' answer =
    Promise (answered answer) (file_verdict file (length a ∷ length b ∷ []))
    ((a' ≡ a) × (b' ≡ b))
    (ReadDone file a b a' b' (sizes_of answer).samples (sizes_of answer).length)

-- "From two recordings and a block length, write the file of document 01 into a lent buffer. .. Bytes after the file stay."
pub record WriteDone (a b : List ℤ) (N : ℕ) (buffer buffer' : List ℕ) (bytes : ℕ) : Type 0 where
  pub file : Put buffer 0 (pair_file a b N) bytes buffer'
  pub bytes_is : bytes ≡ file_bytes (length a)
  pub same : length b ≡ length a
  pub sound : Sound (length a) N (word a) (word b)

abbrev pub WritePromise : (a b : List ℤ) → ℕ → (buffer buffer' : List ℕ) → Result ℕ Refusal → Type 0
WritePromise a b N buffer buffer' answer =
    Promise (answered answer) (write_verdict a b N (length buffer))
    (buffer' ≡ buffer)
    (WriteDone a b N buffer buffer' (bytes_of answer))
