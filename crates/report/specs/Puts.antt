-- What the functions of this crate ask for and leave behind.
use Rattle.std.specs.Prelude.{true, List, ◌≡◌, ℕ, ◌+◌, ◌≤◌, ◌<◌, ℤ, nat_abs, length}
use Rattle.words.specs.Words.{word}
use Rattle.lengths.specs.Block.{is_length, largest_sample}
use Rattle.refusals.specs.Refusals.{scratch_words}
use Rattle.spectra.specs.Promises.{PairBuffers}
use Rattle.words.specs.Put.{Put}
use Rattle.report.specs.Output.{output}

-- two recordings with m samples in range, in blocks of N, and buffers that Pair works in
pub record Printable (m N : ℕ) (a b : List ℤ) (work : PairBuffers) : Type 0 where
  pub length_ok : is_length N ≡ true
  pub most : m ≤ 4096
  pub words_of_a : m ≤ length a
  pub words_of_b : m ≤ length b
  pub range_of_a : (n : ℕ) → n < m → nat_abs (word a n) ≤ largest_sample
  pub range_of_b : (n : ℕ) → n < m → nat_abs (word b n) ≤ largest_sample
  pub real_words : N ≤ length work.real
  pub imaginary_words : N ≤ length work.imaginary
  pub scratch_fits : scratch_words N ≤ length work.scratch

-- what stands in these buffers is the program's choice; they keep their number of words
pub record Kept (work work' : PairBuffers) : Type 0 where
  pub real : length work'.real ≡ length work.real
  pub imaginary : length work'.imaginary ≡ length work.imaginary
  pub scratch : length work'.scratch ≡ length work.scratch

-- a text is put, of at most `most` bytes
pub record PutFrom (page : List ℕ) (at : ℕ) (text : List ℕ) (most next : ℕ) (page' : List ℕ) (work work' : PairBuffers) : Type 0 where
  pub put : Put page at text next page'
  pub fits : next ≤ at + most
  pub kept : Kept work work'

-- the whole output is put at the front of the page; the words of the recordings a and b are the program's choice, too
pub record OutputPut (file page : List ℕ) (next : ℕ) (page' : List ℕ) (a b : List ℤ) (work : PairBuffers) (a' b' : List ℤ)
    (work' : PairBuffers) : Type 0 where
  pub put : Put page 0 (output file) next page'
  pub words_of_a : length a' ≡ length a
  pub words_of_b : length b' ≡ length b
  pub kept : Kept work work'
