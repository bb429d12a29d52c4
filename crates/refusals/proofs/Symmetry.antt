-- The tests of a call whose samples have their sign changed are those of the call: they look at sizes.
-- Assumes nothing.
use mathlib.Core.Path.{◌≡◌, refl, ap, ◌∙◌}
use mathlib.Core.List.{List, [], ◌∷◌}
use Prim.Native.Nat.{ℕ, zero, suc}
use Rattle.whole.proofs.Size.{size_neg}
use Rattle.words.specs.Words.{Samples, negated}
use Rattle.lengths.specs.Block.{largest_sample}
use Rattle.refusals.specs.Refusals.{first_beyond, first_beyond_or, first_out_in, Verdict}
use Rattle.refusals.specs.Calls.{Call, tests}

pub first_beyond_odd : (limit : ℕ) (x : Samples) (i d : ℕ) → first_beyond limit (negated x) i d ≡ first_beyond limit x i d
unfolding first_beyond
first_beyond_odd limit x i zero = refl
first_beyond_odd limit x i (suc d) = rw (size_neg (x i), first_beyond_odd limit x (suc i) d) refl

pub first_beyond_or_odd : (number limit : ℕ) (x : Samples) (start N : ℕ) (rest : Verdict) →
    first_beyond_or number limit (negated x) start N rest ≡ first_beyond_or number limit x start N rest
first_beyond_or_odd number limit x start N rest = rw (first_beyond_odd limit x start N) refl

-- every one of some recordings with its sign changed
abbrev pub all_negated : List Samples → List Samples
all_negated [] = []
all_negated (x ∷ xs) = negated x ∷ all_negated xs

first_out_odd : (xs : List Samples) (start N : ℕ) (rest : Verdict)
    → first_out_in (all_negated xs) start N rest ≡ first_out_in xs start N rest
first_out_odd [] start N rest = refl
first_out_odd (x ∷ xs) start N rest =
    first_beyond_or_odd 6 largest_sample x start N (first_out_in (all_negated xs) start N rest)
    ∙ ap (first_beyond_or 6 largest_sample x start N) (first_out_odd xs start N rest)

abbrev pub turned_call : Call → Call
turned_call call =
    record {
      lengths = call.lengths;
      samples = all_negated call.samples;
      start = call.start;
      N = call.N;
      allowance = call.allowance;
      results = call.results;
      yields = call.yields;
      scratch = call.scratch;
      products = call.products;
    }

pub tests_odd : (call : Call) (rest : Verdict) → tests (turned_call call) rest ≡ tests call rest
unfolding tests
tests_odd call rest = rw (first_out_odd call.samples call.start call.N rest) refl
