-- The wrong pages of specs/Excluded: the checker computes what the promise says at each input.
-- Assumes nothing.
use mathlib.Core.Path.{ap}
use mathlib.Core.List.{List}
use Prim.Native.Nat.{ℕ}
use lib.Dec.{lit<}
use lib.ListN.{get_or}
use Rattle.words.specs.Put.{joined}
use Rattle.lengths.specs.Block.{is_length}
use Rattle.refusals.specs.declared.refusal.Refusal.{Refusal}
use Rattle.std.specs.Prelude.{Result}
use Rattle.refusals.specs.Refusals.{number}
use Rattle.refusals.specs.Calls.{stored_tests}
use Rattle.refusals.proofs.Exclusion.{differ, byte_put, byte_behind_lem, done_of, stays}
use Rattle.text.specs.Decimal.{spelled, number as digits, decimal}
use Rattle.text.specs.Alignment.{right_aligned}
use Rattle.pages.specs.Page.{columns, heading, page, page_verdict}
use Rattle.pages.specs.Excluded.{Excluded}

pub excluded : (page : List ℕ) (answer : Result ℕ Refusal) → Excluded page answer
unfolding is_length stored_tests spelled digits decimal right_aligned columns heading joined page page_verdict
excluded _ _ = record {
  capital = λ p w. differ (byte_put (done_of p).printed 3 (lit< tt)) w tt;
  no_line_feed = λ p w. differ (byte_put (done_of p).printed 30 (lit< tt)) w tt;
  from_one = λ p w. differ (byte_put (done_of p).printed 34 (lit< tt)) w tt;
  left_aligned = λ p w. differ (byte_put (done_of p).printed 31 (lit< tt)) w tt;
  column_of_eleven = λ p w. differ (byte_put (done_of p).printed 46 (lit< tt)) w tt;
  exchanged = λ p w. differ (byte_put (done_of p).printed 47 (lit< tt)) w tt;
  lines_left_out = λ p w. differ (done_of p).bytes_is w tt;
  byte_behind = λ p w. let done = done_of p in
      differ (byte_behind_lem done.printed 62 done.bytes_is) w tt;
  lines_of_thirty = λ p w. differ (ap number p.verdict) w tt;
  heading_put = λ p w. differ (ap (λ l. get_or l 0 0) (stays p tt)) w tt;
  three_first = λ p w. differ (ap number p.verdict) w tt;
  sine_not_counted = λ p w. differ (ap number p.verdict) w tt;
}
