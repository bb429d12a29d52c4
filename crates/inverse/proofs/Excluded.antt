-- The wrong outcomes of specs/Excluded: the checker computes what the promise says at each input.
-- Assumes nothing.
use mathlib.Core.Path.{ap}
use mathlib.Core.List.{List}
use lib.Dec.{lit<, lit≤}
use lib.IntN.{ℤ}
use Rattle.std.specs.Prelude.{Result, ⊤}
use Rattle.whole.specs.Round.{nearest}
use Rattle.whole.specs.Sum.{sum}
use Rattle.circle.specs.Circle.{root_of, halved, unit_step, step, stepped, first_quarter, on_half, on_circle, K, T}
use Rattle.lengths.specs.Block.{is_length}
use Rattle.refusals.specs.declared.refusal.Refusal.{Refusal}
use Rattle.refusals.specs.Refusals.{first_beyond, number, place}
use Rattle.refusals.specs.Calls.{stored_tests}
use Rattle.refusals.proofs.Exclusion.{differ, code, words_differ, done_of}
use Rattle.inverse.specs.Inverse.{T°, inverse_sum, inverse_dct, inverse_verdict}
use Rattle.inverse.specs.Excluded.{Excluded}

pub excluded : (values : List ℤ) (answer : Result ⊤ Refusal) → Excluded values answer
unfolding code nearest sum root_of halved unit_step step stepped first_quarter on_half on_circle K T T° inverse_sum inverse_dct
    is_length first_beyond stored_tests inverse_verdict
excluded _ _ = record {
  first_twice = λ p w. words_differ ((done_of p).words.new 0 (lit< tt)) w tt;
  half_left_out = λ p w. words_differ ((done_of p).words.new 0 (lit< tt)) w tt;
  rounded_twice = λ p w. words_differ ((done_of p).words.new 0 (lit< tt)) w tt;
  beyond_cleared = λ p w. words_differ ((done_of p).words.high 1 (lit≤ tt)) w tt;
  limit_a_million = λ p w. differ (ap number p.verdict) w tt;
  place_from_one = λ p w. differ (ap place p.verdict) w tt;
  place_lost = λ p w. differ (ap place p.verdict) w tt;
  three_first = λ p w. differ (ap number p.verdict) w tt;
  told_as_six = λ p w. differ (ap number p.verdict) w tt;
}
