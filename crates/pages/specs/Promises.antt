-- What a page promises, for every input: the verdict, what stays after a refusal, and all that an accepted call leaves behind. The buffer
-- after the call is marked '.
use Rattle.std.specs.Prelude.{true, List, [], ◌∷◌, ◌≡◌, ℕ, ℤ, length, Result}
use Rattle.words.specs.Words.{word}
use Rattle.words.specs.Put.{Put}
use Rattle.lengths.specs.Block.{is_length}
use Rattle.refusals.specs.declared.refusal.Refusal.{Refusal}
use Rattle.refusals.specs.Refusals.{Promise}
use Rattle.refusals.specs.Answers.{answered, bytes_of}
use Rattle.pages.specs.Page.{page, page_bytes, page_verdict}

-- the page stands at the front of the buffer. "Bytes after the last line stay."
pub record PageDone (N : ℕ) (cosine sine : ℕ → ℤ) (buffer buffer' : List ℕ) (bytes : ℕ) : Type 0 where
  pub printed : Put buffer 0 (page N cosine sine) bytes buffer'
  pub bytes_is : bytes ≡ page_bytes N
  -- what acceptance says of the length
  pub length_ok : is_length N ≡ true

-- "3 for a page buffer too short, which then is unchanged", as after every refusal
abbrev pub PagePromise : (cosine sine : List ℤ) → ℕ → (buffer buffer' : List ℕ) → Result ℕ Refusal → Type 0
PagePromise cosine sine N buffer buffer' answer =
    Promise (answered answer) (page_verdict (length cosine ∷ length sine ∷ []) N (length buffer))
    (buffer' ≡ buffer)
    (PageDone N (word cosine) (word sine) buffer buffer' (bytes_of answer))
