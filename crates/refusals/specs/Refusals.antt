-- Document 01, "When a call is turned down": the conditions 1 to 6, on lengths and samples, in their order; and what a call promises of its
-- verdict. The order itself is in Calls, of the calls on recordings and on stored blocks; and where a call has tests of its own, in its
-- crate.
use Rattle.std.specs.Prelude.{Bool, false, cond, ◌||◌, List, [], ◌∷◌, ◌≡◌, ℕ, zero, suc, ◌+◌, ◌*◌, leb, ltb, ℤ, nat_abs}
use Rattle.words.specs.Words.{Samples, word}
use Rattle.lengths.specs.Block.{largest_sample}

-- ---- 1: "N is not one of the eleven lengths": `is_length` of the definitions of blocks

-- ---- 2: "start + N exceeds the length of a recording"; 3: "a result buffer is too short for the values listed"
abbrev pub some_below : ℕ → List ℕ → Bool
some_below n [] = false
some_below n (m ∷ ms) = ltb m n || some_below n ms

-- ---- 4: "scratch is shorter than 8N + 64 words of 64 bits"
abbrev pub scratch_words : ℕ → ℕ
scratch_words N = 8 * N + 64

-- ---- 6: "first sample out of range". The block is the part of a recording that begins at start
abbrev pub block : List ℤ → ℕ → Samples
block recording start n = word recording (start + n)

-- a number at most a limit in size
abbrev pub at_most : ℕ → ℤ → Bool
at_most limit z = leb (nat_abs z) limit

-- the first place among i, i + 1, .. i + d - 1 where the number is beyond the limit on either side, or i + d where there is none
unfoldable pub first_beyond : ℕ → Samples → ℕ → ℕ → ℕ
first_beyond limit x i zero = i
first_beyond limit x i (suc d) = cond (at_most limit (x i)) (first_beyond limit x (suc i) d) i

abbrev pub in_range : ℤ → Bool
in_range z = at_most largest_sample z

-- ---- the verdict: a call is accepted, or turned down with the number of the first condition that holds and, for 6 and 10, the place of
-- the first number out of range
pub data Verdict : Type 0 where
  refused_at : (number place : ℕ) → Verdict
  accepted : Verdict

-- where a condition has no place, 0 is told
abbrev pub refused : ℕ → Verdict
refused number = refused_at number 0

-- the number returned; 0 says that a call is accepted
abbrev pub number : Verdict → ℕ
number (refused_at n i) = n
number accepted = 0

abbrev pub place : Verdict → ℕ
place (refused_at n i) = i
place accepted = 0

-- a refusal with the place of the first number beyond a limit, and then the rest
abbrev pub first_beyond_or : (number limit : ℕ) → Samples → ℕ → ℕ → Verdict → Verdict
first_beyond_or number limit x start N rest =
    cond (ltb (first_beyond limit x start N) (start + N)) (refused_at number (first_beyond limit x start N)) rest

-- 6 on a recording. "The place in answer 6 counts from 0 at the first sample of the recording, not of the block."
abbrev pub first_out_or : Samples → ℕ → ℕ → Verdict → Verdict
first_out_or x start N rest = first_beyond_or 6 largest_sample x start N rest

-- 6 on each of the recordings, and then the rest. "in Pair a before b"
abbrev pub first_out_in : List Samples → ℕ → ℕ → Verdict → Verdict
first_out_in [] start N rest = rest
first_out_in (x ∷ xs) start N rest = first_out_or x start N (first_out_in xs start N rest)

-- ---- what a call promises of the verdict that its answer tells: it is the one that is stated; what stays where the call is turned down,
-- and what is done where it is accepted
pub record Promise (told stated : Verdict) (Unchanged Done : Type 0) : Type 0 where
  pub verdict : told ≡ stated
  pub unchanged : (told ≡ accepted → ⊥) → Unchanged
  pub done : told ≡ accepted → Done
