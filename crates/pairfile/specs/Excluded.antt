-- Wrong outcomes that the promises of the reader and the writer exclude, each at one named input.
use Rattle.std.specs.Prelude.{List, [], ◌∷◌, true, ◌≡◌, ℕ, ℤ, pos, replicate, Result}
use Rattle.words.specs.Words.{word}
use Rattle.refusals.specs.declared.refusal.Refusal.{Refusal}
use Rattle.refusals.specs.Refusals.{number, place}
use Rattle.refusals.specs.Answers.{answered}
use Rattle.refusals.specs.Exclusion.{nines, Never}
use Rattle.little_endian.specs.Numbers.{byte}
use Rattle.pairfile.specs.declared.reader.Sizes.{Sizes}
use Rattle.pairfile.specs.File.{bad_count}
use Rattle.pairfile.specs.Answers.{sizes_of}
use Rattle.pairfile.specs.Promises.{ReadPromise, WritePromise}

-- m = 1, N = 2, a = 3, and the four bytes of b
abbrev file : List ℕ → List ℕ
file b = 1 ∷ 0 ∷ 0 ∷ 0 ∷ 2 ∷ 0 ∷ 0 ∷ 0 ∷ 3 ∷ 0 ∷ 0 ∷ 0 ∷ b

-- the bytes of 5, and of 1,000,001
abbrev five : List ℕ
five = 5 ∷ 0 ∷ 0 ∷ 0 ∷ []

abbrev too_large : List ℕ
too_large = 65 ∷ 66 ∷ 15 ∷ 0 ∷ []

-- ---- the reader. What it leaves in the recordings, and its answer, may be anything
module _ (a b : List ℤ) (answer : Result Sizes Refusal) where
  abbrev Read : List ℕ → Type 0
  Read bytes = ReadPromise bytes (nines 1) (nines 1) a b answer

  pub record ReadExcluded : Type 0 where
    -- "a then b": b before a
    pub b_first : Never (Read (file five)) (word a 0) (pos 5)
    -- "Sizes first: sample count m .., block length N": N for m
    pub sizes_exchanged : Never (Read (file five)) (sizes_of answer).samples 2
    -- 6 "over all m samples of a and then of b": no sample of b examined; a written before b is examined
    pub b_unchecked : Never (Read (file too_large)) (number (answered answer)) 0
    pub a_written : Never (Read (file too_large)) (word a 0) (pos 3)
    -- "A file tests 7, 8, 9, 1, 3, then 6": 1 before 9
    pub one_before_nine : Never (Read (1 ∷ 0 ∷ 0 ∷ 0 ∷ 3 ∷ 0 ∷ 0 ∷ 0 ∷ [])) (number (answered answer)) 1
    -- 8, "m is 0 or above 4,096": 4,096 refused
    pub most_refused : bad_count 4096 ≡ true → ⊥

-- ---- the writer
module _ (buffer : List ℕ) (answer : Result ℕ Refusal) where
  abbrev Write : (a b : List ℤ) → ℕ → (room : ℕ) → Type 0
  Write a b N room = WritePromise a b N (replicate room 9) buffer answer

  abbrev three : List ℤ
  three = pos 3 ∷ []

  pub record WriteExcluded : Type 0 where
    -- m, N, a, b: N before m, and b before a
    pub length_first : Never (Write three (pos 5 ∷ []) 2 16) (byte buffer 0) 2
    pub b_first : Never (Write three (pos 5 ∷ []) 2 16) (byte buffer 8) 5
    -- "Bytes after the file stay."
    pub byte_behind : Never (Write three (pos 5 ∷ []) 2 17) (byte buffer 16) 0
    -- "Order: 8 (by the length of a), 11, 1, 6 (over all of a, then of b), 3.": 11 before 8, 1 before 11, 3 before 6
    pub eleven_first : Never (Write [] three 2 16) (number (answered answer)) 11
    pub one_first : Never (Write three [] 3 16) (number (answered answer)) 1
    pub three_first : Never (Write (pos 1000001 ∷ []) three 2 0) (number (answered answer)) 3
    -- no sample of b examined; the place lost; a buffer of one byte less than 8 + 8m taken
    pub b_unchecked : Never (Write three (pos 1000001 ∷ []) 2 16) (number (answered answer)) 0
    pub place_lost : Never (Write (pos 3 ∷ pos 1000001 ∷ []) (nines 2) 2 24) (place (answered answer)) 0
    pub a_byte_short : Never (Write three three 2 15) (number (answered answer)) 0
