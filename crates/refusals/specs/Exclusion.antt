-- Laws of exclusion: with a wrong outcome at one named input, a call's promise is absurd. Each crate of calls has its own in
-- specs/Excluded; here are those of the pass over numbers.
use Rattle.std.specs.Prelude.{List, [], ◌∷◌, ◌≡◌, ℕ, ℤ, pos, replicate, Some, None}
use Rattle.words.specs.Words.{word}
use Rattle.lengths.specs.Block.{largest_sample}
use Rattle.refusals.specs.declared.range.Pass.{Pass}
use Rattle.refusals.specs.Passes.{OnePass}

-- an outcome of which this is promised never shows the wrong thing; `seen` is what is looked at of it
abbrev pub Never : {A : Type 0} → (promised : Type 0) → (seen wrong : A) → Type 0
Never promised seen wrong = promised → seen ≡ wrong → ⊥

-- lent buffers are full of nines, so that a word which was left as it was shows
abbrev pub nines : ℕ → List ℤ
nines n = replicate n (pos 9)

-- ---- passes over the samples 5, 1,000,001, 5, from start 1 on
abbrev Looks : Pass → Type 0
Looks pass = OnePass largest_sample (word (pos 5 ∷ pos 1000001 ∷ pos 5 ∷ [])) 1 2 pass

pub record Excluded : Type 0 where
  -- "stops at the first out of range": a look at the sample behind it
  pub goes_on : Looks (record { place = Some 1; looks = 2 }) → ⊥
  -- the look at that sample itself is not tallied
  pub look_not_tallied : Looks (record { place = Some 1; looks = 0 }) → ⊥
  -- the place counted from the block
  pub place_in_block : Looks (record { place = Some 0; looks = 1 }) → ⊥
  -- "or none exactly when all are in range"
  pub none_found : Looks (record { place = None; looks = 2 }) → ⊥
  pub all_out_of_range : (looks : ℕ) → OnePass largest_sample (word (pos 1000000 ∷ [])) 0 1 (record { place = Some 0; looks = looks }) → ⊥
