-- Wrong outcomes that the promise of the inverse DCT excludes, each at one named input.
use Rattle.std.specs.Prelude.{List, [], ◌∷◌, ℕ, ℤ, pos, negsuc, Result, ⊤}
use Rattle.words.specs.Words.{word}
use Rattle.refusals.specs.declared.refusal.Refusal.{Refusal}
use Rattle.refusals.specs.Refusals.{number, place}
use Rattle.refusals.specs.Answers.{answered}
use Rattle.refusals.specs.Exclusion.{nines, Never}
use Rattle.inverse.specs.Promises.{InversePromise}

-- what it leaves in its buffer, and its answer, may be anything
module _ (values : List ℤ) (answer : Result ⊤ Refusal) where
  abbrev Inverse : List ℤ → ℕ → (room : ℕ) → Type 0
  Inverse coefficients N room = InversePromise coefficients N (nines room) values answer

  pub record Excluded : Type 0 where
    -- "plus twice the sum over k from 1": coefficient 0 twice, too
    pub first_twice : Never (Inverse (pos 2 ∷ pos 0 ∷ []) 2 2) (word values 0) (pos 2)
    -- "rounded once to the nearest whole number, a tie going to the larger": without the half; and rounded by 2^30 and then by N, where
    -- −1 + 1.41 is 0.41
    pub half_left_out : Never (Inverse (pos 1 ∷ pos 0 ∷ []) 2 2) (word values 0) (pos 0)
    pub rounded_twice : Never (Inverse (negsuc 1 ∷ pos 2 ∷ []) 2 2) (word values 0) (pos 1)
    -- "words beyond N stay"
    pub beyond_cleared : Never (Inverse (pos 7 ∷ []) 1 2) (word values 1) (pos 0)
    -- 10, "beyond N·1,000,000 + N": a limit of N·1,000,000; "with the place of the first such": counted from 1, or lost
    pub limit_a_million : Never (Inverse (pos 1000001 ∷ []) 1 1) (number (answered answer)) 10
    pub place_from_one : Never (Inverse (pos 1000002 ∷ []) 1 1) (place (answered answer)) 1
    pub place_lost : Never (Inverse (pos 0 ∷ pos 2000003 ∷ []) 2 2) (place (answered answer)) 0
    -- "Order: 1, 2 .., 3, 10.": 3 before 2, with no word of either; and 10 told as 6
    pub three_first : Never (Inverse [] 1 0) (number (answered answer)) 3
    pub told_as_six : Never (Inverse (pos 1000002 ∷ []) 1 1) (number (answered answer)) 6
