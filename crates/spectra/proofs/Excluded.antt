-- The wrong outcomes of specs/Excluded: the checker computes what the promise says at each input.
-- Assumes nothing.
use mathlib.Core.Path.{ap}
use mathlib.Core.List.{List}
use lib.Dec.{lit<}
use lib.IntN.{ℤ, pos}
use Rattle.whole.specs.Round.{nearest, round, rest}
use Rattle.whole.specs.Largest.{largest}
use Rattle.circle.specs.Circle.{root_of, halved, unit_step, step, stepped, first_quarter, on_half, on_circle, K, T}
use Rattle.words.specs.Words.{word}
use Rattle.lengths.specs.Block.{is_length, level}
use Rattle.ffct.specs.Transforms.{alternate, rearranged, cosine_beyond, sine_beyond, dct_beyond, apart, unrounded, rotated, rotation_rest}
use Rattle.ffct.specs.Transforms.{dct_by, cosine_dft, dct, spectrum, pair}
use Rattle.refusals.specs.Refusals.{first_beyond, number, place}
use Rattle.refusals.specs.Calls.{tests}
use Rattle.refusals.proofs.Exclusion.{differ, code, words_differ, done_of, stays}
use Rattle.std.specs.Prelude.{Result}
use Rattle.counts.specs.declared.tally.Tally.{Tally}
use Rattle.counts.specs.declared.Counts.{Counts}
use Rattle.refusals.specs.declared.refusal.Refusal.{Refusal}
use Rattle.spectra.specs.declared.marks.Marked.{Marked}
use Rattle.spectra.specs.Answers.{mark_number}
use Rattle.spectra.specs.Marks.{all, some, mark}
use Rattle.spectra.specs.Promises.{Buffers, PairBuffers}
use Rattle.spectra.specs.Excluded.{CosineExcluded, SpectrumExcluded, PairExcluded, CountsExcluded, MarkExcluded}

pub cosine_excluded : (coefficients scratch : List ℤ) (answer : Result Tally Refusal) → CosineExcluded coefficients scratch answer
unfolding code nearest round rest largest root_of halved unit_step step stepped first_quarter on_half on_circle K T
    alternate rearranged cosine_beyond sine_beyond dct_beyond apart unrounded rotated rotation_rest dct_by cosine_dft dct
    is_length level first_beyond tests
cosine_excluded _ _ _ = record {
  half_left_out = λ p w. words_differ ((done_of p).words.new 1 (lit< tt)) w tt;
  rounded_apart = λ p w. words_differ ((done_of p).words.new 1 (lit< tt)) w tt;
  direct_sums = λ p w. words_differ ((done_of p).words.new 1 (lit< tt)) w tt;
  counts_of_two = λ p w. differ (done_of p).spends.tallied.0 w tt;
  first_again = λ p w. words_differ ((done_of p).words.new 1 (lit< tt)) w tt;
  refused_by_five = λ p w. differ (ap number p.verdict) w tt;
  refused_by_one = λ p w. differ (ap number p.verdict) w tt;
  rest_forgotten = λ p w. differ (done_of p).spends.rest w tt;
  scratch_left = λ p w. words_differ ((done_of p).spends.scratch_cleared.new 79 (lit< tt)) w tt;
  limit_refused = λ p w. differ (ap number p.verdict) w tt;
  low_accepted = λ p w. differ (ap number p.verdict) w tt;
  place_in_block = λ p w. differ (ap place p.verdict) w tt;
  place_lost = λ p w. differ (ap place p.verdict) w tt;
  four_first = λ p w. differ (ap number p.verdict) w tt;
}

pub spectrum_excluded : (lent : Buffers) (answer : Result Tally Refusal) → SpectrumExcluded lent answer
unfolding code nearest round root_of halved unit_step step stepped first_quarter on_half on_circle K T
    alternate rearranged cosine_beyond sine_beyond dct_beyond apart unrounded rotated dct_by cosine_dft spectrum
    is_length level first_beyond tests
spectrum_excluded _ _ = record {
  sign_left_out = λ p w. words_differ ((done_of p).sine_words.new 2 (lit< tt)) w tt;
  stored_read = λ p w. words_differ ((done_of p).cosine_words.new 1 (lit< tt)) w tt;
  form_at_one = λ p w. differ (done_of p).spends.tallied.1 w tt;
  zeros = λ p w. words_differ ((done_of p).cosine_words.new 0 (lit< tt)) w tt;
  untouched = λ p w. words_differ ((done_of p).cosine_words.new 0 (lit< tt)) w tt;
  exchanged = λ p w. words_differ ((done_of p).sine_words.new 0 (lit< tt)) w tt;
  touched = λ p w. words_differ (ap (λ l. word l.cosine 0) (stays p tt)) w tt;
}

pub pair_excluded : (lent : PairBuffers) (answer : Result Tally Refusal) → PairExcluded lent answer
unfolding code cosine_beyond sine_beyond dct_beyond apart alternate dct_by cosine_dft spectrum pair is_length level first_beyond tests
pair_excluded _ _ = record {
  sign_turned = λ p w. words_differ ((done_of p).imaginary_words.new 1 (lit< tt)) w tt;
  exchanged = λ p w. words_differ ((done_of p).real_words.new 0 (lit< tt)) w tt;
  form_at_one = λ p w. differ (done_of p).spends.tallied.0 w tt;
  b_first = λ p w. differ (ap place p.verdict) w tt;
}

pub counts_excluded : (answer : Result Counts Refusal) → CountsExcluded answer
unfolding is_length level dct_by cosine_dft dct spectrum
counts_excluded _ = record {
  counts_of_two = λ p w. differ ((p.counted p.verdict).0.of_dct.products (λ n. pos 0)) w tt;
  form_at_one = λ p w. differ ((p.counted p.verdict).0.of_spectrum (λ n. pos 0)).1 w tt;
  any_length = λ p w. differ (ap number p.verdict) w tt;
}

pub mark_excluded : (lent : Buffers) (answer : Result Marked Refusal) → MarkExcluded lent answer
unfolding code alternate cosine_beyond sine_beyond dct_beyond apart dct_by cosine_dft spectrum
    is_length level first_beyond tests all some mark
mark_excluded _ _ = record {
  clipped_first = λ p w. differ (ap mark_number (done_of p).marked) w tt;
  sine_overlooked = λ p w. differ (ap mark_number (done_of p).marked) w tt;
  last_overlooked = λ p w. differ (ap mark_number (done_of p).marked) w tt;
  first_counted = λ p w. differ (ap mark_number (done_of p).marked) w tt;
  level_plain = λ p w. differ (ap mark_number (done_of p).marked) w tt;
  before_block = λ p w. differ (ap mark_number (done_of p).marked) w tt;
  twelve_first = λ p w. differ (ap number p.verdict) w tt;
  told_as_six = λ p w. differ (ap number p.verdict) w tt;
  scratch_cleared = λ p w. words_differ (ap (λ l. word l.scratch 0) (stays p tt)) w tt;
}
