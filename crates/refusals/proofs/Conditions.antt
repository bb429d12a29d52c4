-- The conditions of a refusal as tests, and as facts: lengths that reach a number, samples that are in range.
-- Assumes nothing.
use mathlib.Core.Path.{◌≡◌, refl, sym, ◌∙◌}
use mathlib.Core.Logic.{⊎_elim}
use mathlib.Core.Bool.{Bool, true, false, false≢true, ◌||◌}
use mathlib.Core.List.{List, [], ◌∷◌}
use Prim.Native.Nat.{ℕ, ◌+◌, min, ◌≤◌, ◌<◌}
use native.Mathlib.Omega.{arith}
use lib.Dec.{ltb}
use borrow.Author.Tests.{lt-ltb, le-ltb, ltb-false}
use Rattle.whole.proofs.Cases.{le_or_lt}
use Rattle.words.specs.Words.{Samples}
use Rattle.lengths.specs.Block.{largest_sample}
use Rattle.lengths.proofs.ElevenLengths.{length_le}
use Rattle.refusals.specs.declared.range.Pass.{Pass}
use Rattle.std.specs.Prelude.{Some, None}
use Rattle.refusals.specs.Refusals.{some_below, first_beyond, first_beyond_or, first_out_in, Verdict, refused_at, accepted}
use Rattle.refusals.specs.Passes.{AllWithin, FirstAt, OnePass}
use Rattle.refusals.proofs.Promises.{not_both}
use Rattle.refusals.proofs.Passes.{all_in, first_at}
use Rattle.refusals.proofs.Ranges.{first_end, first_place, all_within}

-- ---- lengths that all reach n
abbrev pub AllReach : ℕ → List ℕ → Type 0
AllReach n [] = Unit {0}
AllReach n (m ∷ ms) = (n ≤ m) × AllReach n ms

pub all_reach : (n : ℕ) (ms : List ℕ) → AllReach n ms → some_below n ms ≡ false
all_reach n [] h = refl
all_reach n (m ∷ ms) (l, h) = rw (le-ltb m n l) (all_reach n ms h)

pub none_of : (a b : Bool) → (a || b) ≡ false → (a ≡ false) × (b ≡ false)
none_of true b e = absurd (false≢true (sym e))
none_of false b e = (refl, e)

pub reach_all : (n : ℕ) (ms : List ℕ) → some_below n ms ≡ false → AllReach n ms
reach_all n [] e = tt
reach_all n (m ∷ ms) e = let (f, g) = none_of (ltb m n) (some_below n ms) e in (ltb-false m n f, reach_all n ms g)

-- of two lengths the shorter decides
pub two_below : (a b : ℕ) {m : ℕ} → m ≡ min a b → (n : ℕ) → some_below n (a ∷ b ∷ []) ≡ some_below n (m ∷ [])
two_below a b {m} e n = ⊎_elim
    (λ h. rw (le-ltb a n h) (⊎_elim
    (λ l. rw (le-ltb b n l, le-ltb m n (omega arith)))
    (λ l. rw (lt-ltb b n l, lt-ltb m n (omega arith)))
    (le_or_lt n b)))
    (λ h. rw (lt-ltb a n h, lt-ltb m n (omega arith)))
    (le_or_lt n a)

-- ---- numbers with a limit: all are within it, or the first that is not stands at a place
module _ (number limit : ℕ) (x : Samples) (s N : ℕ) (rest : Verdict) where
  pub none_beyond : AllWithin limit x s (s + N) → first_beyond_or number limit x s N rest ≡ rest
  none_beyond h = rw (le-ltb (first_beyond limit x s N) (s + N) (omega (arith, first_end limit x s N h)))

  first_beyond_lem : {place : ℕ} → FirstAt limit x s N place → first_beyond_or number limit x s N rest ≡ refused_at number place
  first_beyond_lem f = rw (first_place limit x s N f, lt-ltb _ (s + N) f.to)

  -- a verdict that accepts has passed the test
  past_beyond : first_beyond_or number limit x s N rest ≡ accepted → AllWithin limit x s (s + N) × (rest ≡ accepted)
  past_beyond e = ⊎_elim within out (le_or_lt (s + N) (first_beyond limit x s N))
    where
      within : s + N ≤ first_beyond limit x s N → AllWithin limit x s (s + N) × (rest ≡ accepted)
      within h = let all = all_within limit x s N h in (all, sym (none_beyond all) ∙ e)

      out : first_beyond limit x s N < s + N → AllWithin limit x s (s + N) × (rest ≡ accepted)
      out h = absurd (not_both (rw (lt-ltb _ (s + N) h) at e))

-- the same by what a pass has found
module _ (number : ℕ) (rest : Verdict) {limit : ℕ} {x : Samples} {s N : ℕ} {pass : Pass} (p : OnePass limit x s N pass) where
  pub found_none : pass.place ≡ None → first_beyond_or number limit x s N rest ≡ rest
  found_none e = none_beyond number limit x s N rest (all_in p e)

  pub found_at : {place : ℕ} → pass.place ≡ Some place → first_beyond_or number limit x s N rest ≡ refused_at number place
  found_at e = first_beyond_lem number limit x s N rest (first_at p e)

-- what the tests of a call cite: the length fits, and what the pass has found
pub ruleset tested = (length_le, found_none, found_at)

-- ---- samples: all are in range, in each of some recordings
abbrev pub AllIn : List Samples → ℕ → ℕ → Type 0
AllIn [] s N = Unit {0}
AllIn (x ∷ xs) s N = AllWithin largest_sample x s (s + N) × AllIn xs s N

module _ (s N : ℕ) (rest : Verdict) where
  pub in_verdict : (xs : List Samples) → AllIn xs s N → first_out_in xs s N rest ≡ rest
  in_verdict [] h = refl
  in_verdict (x ∷ xs) (e, h) = none_beyond 6 _ x s N _ e ∙ in_verdict xs h

  -- a verdict that accepts has passed the tests
  pub past_in : (xs : List Samples) → first_out_in xs s N rest ≡ accepted → AllIn xs s N × (rest ≡ accepted)
  past_in [] e = (tt, e)
  past_in (x ∷ xs) e =
      let (here, on) = past_beyond 6 _ x s N _ e in
      let (there, end) = past_in xs on in
      ((here, there), end)
