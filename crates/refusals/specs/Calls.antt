-- The tests of the calls on recordings and on stored blocks. "Calls on recordings test 1 to 6 in this order."
use Rattle.std.specs.Prelude.{not, cond, List, [], ◌∷◌, ℕ, ◌+◌, ltb}
use Rattle.words.specs.Words.{Samples}
use Rattle.lengths.specs.Block.{is_length}
use Rattle.refusals.specs.Refusals.{some_below, scratch_words, Verdict, refused, accepted, first_out_in}

-- a call on recordings: the lengths of its recordings and their samples; the block; the lengths of its result buffers, and the words that
-- it yields to each; the length of its scratch; and the products that it spends
pub record Call : Type 0 where
  pub lengths : List ℕ
  pub samples : List Samples
  pub start : ℕ
  pub N : ℕ
  pub allowance : ℕ
  pub results : List ℕ
  pub yields : ℕ
  pub scratch : ℕ
  pub products : ℕ

-- the number of the first of the conditions 2 to 6 that holds; where none does, what a call tests behind them
abbrev pub tests_from_two : Call → Verdict → Verdict
tests_from_two call rest =
    cond (some_below (call.start + call.N) call.lengths) (refused 2)
    (cond (some_below call.yields call.results) (refused 3)
    (cond (ltb call.scratch (scratch_words call.N)) (refused 4)
    (cond (ltb call.allowance call.products) (refused 5)
    (first_out_in call.samples call.start call.N rest))))

-- the same of the conditions 1 to 6
unfoldable pub tests : Call → Verdict → Verdict
tests call rest = cond (not (is_length call.N)) (refused 1) (tests_from_two call rest)

-- "A call is accepted exactly when none of the conditions it tests holds"
abbrev pub verdict : Call → Verdict
verdict call = tests call accepted

-- ---- calls on a stored block: "Order: 1, 2 (fewer .. stored ..)", and what comes behind. N is the length of the block, `needed` the
-- coefficients of each kind that are read, `stored` how many there are of each
unfoldable pub stored_tests : (N needed : ℕ) → (stored : List ℕ) → Verdict → Verdict
stored_tests N needed stored rest = cond (not (is_length N)) (refused 1) (cond (some_below needed stored) (refused 2) rest)

-- a call on one recording and with one result buffer; of several recordings it has the first, and of several lengths the shortest
abbrev pub one_recording : Samples → (shortest start N allowance room yields scratch products : ℕ) → Call
one_recording x shortest start N allowance room yields scratch products =
    record {
      lengths = shortest ∷ [];
      samples = x ∷ [];
      start = start;
      N = N;
      allowance = allowance;
      results = room ∷ [];
      yields = yields;
      scratch = scratch;
      products = products;
    }
