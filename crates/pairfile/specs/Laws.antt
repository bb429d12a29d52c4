-- What is proved of the pair file, as statements: each is proved for all files and all inputs in proofs/.
use Rattle.std.specs.Prelude.{false, List, ◌≡◌, ℕ, ◌+◌, ◌≤◌, ◌<◌, ℤ, length, take, Result}
use Rattle.words.specs.Words.{Samples, word, Written}
use Rattle.refusals.specs.Refusals.{accepted, some_below}
use Rattle.little_endian.specs.Numbers.{AreBytes}
use Rattle.refusals.specs.declared.refusal.Refusal.{Refusal}
use Rattle.refusals.specs.Answers.{answered, bytes_of}
use Rattle.pairfile.specs.declared.reader.Sizes.{Sizes}
use Rattle.pairfile.specs.File.{sample_count, block_length, samples_of_a, samples_of_b, most_samples, file_bytes, file_verdict}
use Rattle.pairfile.specs.OwnFile.{pair_file, write_verdict}
use Rattle.pairfile.specs.Answers.{sizes_of}
use Rattle.pairfile.specs.Promises.{ReadPromise, WritePromise}

-- ---- files that read alike

-- the file reads as m, N and the samples of a and b
pub record Reads (file : List ℕ) (m N : ℕ) (a b : Samples) : Type 0 where
  pub count : sample_count file ≡ m
  pub blocks : block_length file ≡ N
  pub of_a : (n : ℕ) → n < m → samples_of_a file n ≡ a n
  pub of_b : (n : ℕ) → n < m → samples_of_b file n ≡ b n

-- two accepted files that read alike are one file, whatever recordings are lent for each
abbrev pub OneFile : Type 0
OneFile =
    (f g lent lent' : List ℕ) → AreBytes f → AreBytes g → file_verdict f lent ≡ accepted → file_verdict g lent' ≡ accepted
    → Reads f (sample_count g) (block_length g) (samples_of_a g) (samples_of_b g) → f ≡ g

-- ---- our own files

-- "our reader returns the input from it": the reader accepts the file of an accepted input, with m words or more lent for each recording,
-- and reads the input from it
abbrev pub InputReadBack : Type 0
InputReadBack =
    (a b : List ℤ) (N room : ℕ) → write_verdict a b N room ≡ accepted
    → ((lent : List ℕ) → some_below (length a) lent ≡ false → file_verdict (pair_file a b N) lent ≡ accepted)
    × Reads (pair_file a b N) (length a) N (word a) (word b)

-- "Each accepted input has one file": a file that the reader accepts, and from which it reads the input, is this one
abbrev pub InputHasOneFile : Type 0
InputHasOneFile =
    (a b : List ℤ) (N room : ℕ) → write_verdict a b N room ≡ accepted
    → (file lent : List ℕ) → AreBytes file → file_verdict file lent ≡ accepted → Reads file (length a) N (word a) (word b)
    → file ≡ pair_file a b N

-- what the reader answers, and leaves in the recordings c and d, when it has read a, b and N
pub record InputRead (a b : List ℤ) (N : ℕ) (c d c' d' : List ℤ) (answer : Result Sizes Refusal) : Type 0 where
  pub verdict : answered answer ≡ accepted
  pub count : (sizes_of answer).samples ≡ length a
  pub blocks : (sizes_of answer).length ≡ N
  pub words_of_a : Written 0 (length a) (word a) c c'
  pub words_of_b : Written 0 (length b) (word b) d d'

-- both calls joined: (1) the writer was called, and (2) accepted and left buffer'; (3) the reader was called with the file's bytes of it
-- and (4) recordings c and d of m words or more: it has read the input
abbrev pub WrittenAndRead : Type 0
WrittenAndRead =
    (a b : List ℤ) (N : ℕ) (buffer buffer' : List ℕ) (wrote : Result ℕ Refusal)
    → WritePromise a b N buffer buffer' wrote
    → answered wrote ≡ accepted
    → (c d c' d' : List ℤ) (answer : Result Sizes Refusal)
    → ReadPromise (take (bytes_of wrote) buffer') c d c' d' answer
    → length a ≤ length c → length a ≤ length d
    → InputRead a b N c d c' d' answer

-- and the other way round: (1) of a file that consists of bytes (2) the reader was called, and (3) accepted it and left a' and b'; (4) the
-- writer was called with the m words of each that were read, the N that was returned, and (5) a buffer as long as the file or longer: it
-- has written this file
abbrev pub ReadAndWritten : Type 0
ReadAndWritten =
    (file : List ℕ) (a b a' b' : List ℤ) (answer : Result Sizes Refusal) → AreBytes file
    → ReadPromise file a b a' b' answer
    → answered answer ≡ accepted
    → (buffer buffer' : List ℕ) (wrote : Result ℕ Refusal)
    → WritePromise (take (sizes_of answer).samples a') (take (sizes_of answer).samples b') (sizes_of answer).length
    buffer buffer' wrote
    → length file ≤ length buffer
    → (answered wrote ≡ accepted) × (take (bytes_of wrote) buffer' ≡ file)

-- ---- long files

-- the first n bytes have the file's verdict, and where it is acceptance they are the whole file
pub record AnswersAsItsFirst (n : ℕ) (file lent : List ℕ) : Type 0 where
  pub verdict : file_verdict (take n file) lent ≡ file_verdict file lent
  pub whole : file_verdict file lent ≡ accepted → take n file ≡ file

-- 32,777: one byte more than the longest file that is accepted has
unfoldable pub first_bytes : ℕ
first_bytes = file_bytes most_samples + 1

-- a longer file answers as its first 32,777 bytes do, so a program need not take in more than these
abbrev pub LongerFile : Type 0
LongerFile = (file lent : List ℕ) → AnswersAsItsFirst first_bytes file lent
