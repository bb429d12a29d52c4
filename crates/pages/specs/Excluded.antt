-- Wrong pages that the promise excludes, each at one named input: N = 1, with the cosine coefficient 7 and the sine coefficient 0, of which
-- the page has 62 bytes.
use Rattle.std.specs.Prelude.{List, [], ◌∷◌, ℕ, ℤ, pos, get_or, replicate, Result}
use Rattle.refusals.specs.declared.refusal.Refusal.{Refusal}
use Rattle.refusals.specs.Refusals.{number}
use Rattle.refusals.specs.Answers.{answered, bytes_of}
use Rattle.refusals.specs.Exclusion.{Never}
use Rattle.pages.specs.Promises.{PagePromise}

-- what the call leaves in the buffer, and its answer, may be anything
module _ (page : List ℕ) (answer : Result ℕ Refusal) where
  abbrev Page : (cosine sine : List ℤ) → (room : ℕ) → Type 0
  Page cosine sine room = PagePromise cosine sine 1 (replicate room 9) page answer

  abbrev Seven : (room : ℕ) → Type 0
  Seven room = Page (pos 7 ∷ []) (pos 0 ∷ []) room

  abbrev at : ℕ → ℕ
  at k = get_or page k 0

  pub record Excluded : Type 0 where
    -- "The first line holds the words `k`, `cosine` and `sine`": K; "lines of 30 columns and a line feed": a space for it
    pub capital : Never (Seven 62) (at 3) 75
    pub no_line_feed : Never (Seven 62) (at 30) 32
    -- "from k = 0 upwards": the line of k = 1; "right aligned": the digit 0 at the left end of its column
    pub from_one : Never (Seven 62) (at 34) 49
    pub left_aligned : Never (Seven 62) (at 31) 48
    -- "cosine in 12": 7 a column earlier; the cosine's column with the sine
    pub column_of_eleven : Never (Seven 62) (at 46) 55
    pub exchanged : Never (Seven 62) (at 47) 48
    -- "one line for each k that Spectrum yields": the heading alone
    pub lines_left_out : Never (Seven 62) (bytes_of answer) 31
    -- "Bytes after the last line stay."
    pub byte_behind : Never (Seven 63) (at 62) 0
    -- 3 "for a page buffer too short": lines of 30 bytes taken; "which then is unchanged": the heading put before the test
    pub lines_of_thirty : Never (Seven 61) (number (answered answer)) 0
    pub heading_put : Never (Seven 61) (at 0) 32
    -- "Order: 1, 2 .., 3": 3 before 2; the words of the sine not counted
    pub three_first : Never (Page [] [] 0) (number (answered answer)) 3
    pub sine_not_counted : Never (Page (pos 7 ∷ []) [] 62) (number (answered answer)) 0
