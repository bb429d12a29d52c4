-- What the inverse DCT promises, for every input: the verdict, what stays after a refusal, and all that an accepted call leaves behind.
-- The buffer after the call is marked '.
use Rattle.std.specs.Prelude.{true, List, ◌≡◌, ℕ, ◌≤◌, ◌<◌, ℤ, nat_abs, Result, ⊤}
use Rattle.words.specs.Words.{word, Written}
use Rattle.lengths.specs.Block.{is_length}
use Rattle.refusals.specs.declared.refusal.Refusal.{Refusal}
use Rattle.refusals.specs.Refusals.{Promise}
use Rattle.refusals.specs.Answers.{answered}
use Rattle.inverse.specs.Inverse.{inverse_dct, largest_coefficient, inverse_verdict}

-- "value n goes to word n of the result, and words beyond N stay"
pub record InverseDone (N : ℕ) (c : ℕ → ℤ) (values values' : List ℤ) : Type 0 where
  pub words : Written 0 N (inverse_dct N c) values values'
  -- what acceptance says of the length and of the coefficients
  pub length_ok : is_length N ≡ true
  pub range : (k : ℕ) → k < N → nat_abs (c k) ≤ largest_coefficient N

abbrev pub InversePromise : (coefficients : List ℤ) → ℕ → (values values' : List ℤ) → Result ⊤ Refusal → Type 0
InversePromise coefficients N values values' answer =
    Promise (answered answer) (inverse_verdict coefficients N values) (values' ≡ values) (InverseDone N (word coefficients) values values')
