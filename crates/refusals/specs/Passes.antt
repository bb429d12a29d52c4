-- Document 02, (iv), "One pass for the range check": what the pass gives. It is stated over the limit, so that other numbers than samples
-- can be looked at by the same pass.
use Rattle.std.specs.Prelude.{◌≡◌, ℕ, ◌+◌, ◌-◌, ◌≤◌, ◌<◌, nat_abs, Option, Some, None}
use Rattle.words.specs.Words.{Samples}
use Rattle.refusals.specs.declared.range.Pass.{Pass}

-- the numbers at the places i with from ≤ i < to are at most the limit in size
abbrev pub AllWithin : (limit : ℕ) → Samples → (from to : ℕ) → Type 0
AllWithin limit x from to = (i : ℕ) → from ≤ i → i < to → nat_abs (x i) ≤ limit

-- of the N numbers from start on, the one at this place is the first beyond the limit
pub record FirstAt (limit : ℕ) (x : Samples) (start N place : ℕ) : Type 0 where
  pub from : start ≤ place
  pub to : place < start + N
  pub before : AllWithin limit x start place
  pub beyond : limit < nat_abs (x place)

-- "it gives that sample's place, or none"
abbrev pub Finds : (limit : ℕ) → Samples → (start N : ℕ) → Option ℕ → Type 0
Finds limit x start N None = AllWithin limit x start (start + N)
Finds limit x start N (Some place) = FirstAt limit x start N place

-- "one for each sample up to there", that sample's own among them; all where there is none
abbrev pub OneEach : (start N : ℕ) → (place : Option ℕ) → (looks : ℕ) → Type 0
OneEach start N None looks = looks ≡ N
OneEach start N (Some place) looks = looks ≡ place - start + 1

-- what the pass over the N numbers from start on gives; "none exactly when all are in range", then with N looks
pub record OnePass (limit : ℕ) (x : Samples) (start N : ℕ) (pass : Pass) : Type 0 where
  pub finds : Finds limit x start N pass.place
  pub none : AllWithin limit x start (start + N) → pass ≡ record { place = None; looks = N }
  pub looks : OneEach start N pass.place pass.looks
