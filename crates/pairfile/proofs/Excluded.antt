-- The wrong outcomes of specs/Excluded: the checker computes what the promise says at each input.
-- Assumes nothing.
use mathlib.Core.Path.{sym, ap}
use mathlib.Core.Bool.{true≢false}
use mathlib.Core.List.{List, flat_map}
use Prim.Native.Nat.{ℕ}
use native.Mathlib.Omega.{arith}
use lib.Dec.{lit<}
use lib.IntN.{ℤ}
use Rattle.words.specs.Words.{word}
use Rattle.lengths.specs.Block.{is_length}
use Rattle.refusals.specs.declared.refusal.Refusal.{Refusal}
use Rattle.std.specs.Prelude.{Result}
use Rattle.refusals.specs.Refusals.{first_beyond, number, place}
use Rattle.refusals.proofs.Exclusion.{differ, code, words_differ, byte_put, byte_behind_lem, done_of, stays}
use Rattle.little_endian.specs.Numbers.{signed}
use Rattle.pairfile.specs.declared.reader.Sizes.{Sizes}
use Rattle.pairfile.specs.File.{file_verdict}
use Rattle.pairfile.specs.OwnFile.{pair_file, write_verdict}
use Rattle.pairfile.specs.Excluded.{ReadExcluded, WriteExcluded}

pub read_excluded : (a b : List ℤ) (answer : Result Sizes Refusal) → ReadExcluded a b answer
unfolding code is_length first_beyond signed file_verdict
read_excluded _ _ _ = record {
  b_first = λ p w. let done = done_of p in words_differ (done.words_of_a.new 0 (omega (arith, done.samples_is))) w tt;
  sizes_exchanged = λ p w. differ (done_of p).samples_is w tt;
  b_unchecked = λ p w. differ (ap number p.verdict) w tt;
  a_written = λ p w. words_differ (ap (λ l. word l 0) (stays p tt).0) w tt;
  one_before_nine = λ p w. differ (ap number p.verdict) w tt;
  most_refused = λ w. true≢false (sym w);
}

pub write_excluded : (buffer : List ℕ) (answer : Result ℕ Refusal) → WriteExcluded buffer answer
unfolding flat_map is_length first_beyond pair_file write_verdict
write_excluded _ _ = record {
  length_first = λ p w. differ (byte_put (done_of p).file 0 (lit< tt)) w tt;
  b_first = λ p w. differ (byte_put (done_of p).file 8 (lit< tt)) w tt;
  byte_behind = λ p w. let done = done_of p in
      differ (byte_behind_lem done.file 16 done.bytes_is) w tt;
  eleven_first = λ p w. differ (ap number p.verdict) w tt;
  one_first = λ p w. differ (ap number p.verdict) w tt;
  three_first = λ p w. differ (ap number p.verdict) w tt;
  b_unchecked = λ p w. differ (ap number p.verdict) w tt;
  place_lost = λ p w. differ (ap place p.verdict) w tt;
  a_byte_short = λ p w. differ (ap number p.verdict) w tt;
}
