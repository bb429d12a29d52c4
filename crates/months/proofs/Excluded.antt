-- The wrong outcomes of specs/Excluded: the checker computes what the promise says at each input.
-- Assumes nothing.
use mathlib.Core.Path.{◌≡◌, refl, ap}
use mathlib.Core.Bool.{true, false≢true}
use mathlib.Core.List.{List, [], ◌∷◌}
use Prim.Native.Nat.{◌*◌}
use native.Mathlib.Omega.{arith}
use lib.Dec.{leb, lit≤}
use lib.IntN.{ℤ}
use lib.ListN.{length}
use borrow.Author.Tests.{le-leb}
use Rattle.std.specs.Prelude.{Result, ⊤, Ok}
use Rattle.whole.specs.Round.{nearest, round}
use Rattle.whole.specs.Sum.{sum}
use Rattle.circle.specs.Circle.{root_of, halved, unit_step, step, stepped, first_quarter, on_half, on_circle, K, T}
use Rattle.words.specs.Words.{word}
use Rattle.lengths.specs.Block.{is_length, level}
use Rattle.ffct.specs.Exact.{exact_cosine, distance, Within}
use Rattle.ffct.specs.Transforms.{alternate, rearranged, cosine_beyond, sine_beyond, dct_beyond, apart, unrounded, rotated}
use Rattle.ffct.specs.Transforms.{dct_by, cosine_dft, sine_dft, dct, spectrum}
use Rattle.counts.specs.declared.tally.Tally.{Tally}
use Rattle.refusals.specs.declared.refusal.Refusal.{Refusal}
use Rattle.refusals.specs.Refusals.{first_beyond, number}
use Rattle.refusals.proofs.Exclusion.{differ, code, words_differ, done_of, stays}
use Rattle.spectra.specs.Promises.{Buffers}
use Rattle.months.specs.declared.account.Sums.{Sums}
use Rattle.months.specs.Accounts.{block_number, cosine_sum, plus, sum_over, eighths}
use Rattle.months.specs.Months.{length_of, account, new_month}
use Rattle.months.specs.Runs.{read_length, length_read, tells_length, Made, Calls, none, more, Run}
use Rattle.months.specs.Isolation.{calls_of, seen_by}
use Rattle.months.specs.Excluded.{BeginExcluded, AddExcluded, ReadExcluded, OthersNumber, OthersSee}
use Rattle.months.proofs.Beginning.{promise}

pub begin_excluded : (month' : List ℤ) (answer : Result ⊤ Refusal) → BeginExcluded month' answer
unfolding code is_length length_of account
begin_excluded _ _ = record {
  bad_begun = λ p w. differ (ap number p.verdict) w tt;
  old_usable = λ p w. differ p.length w tt;
  old_sums = λ p w. words_differ (ap (λ m. cosine_sum (account 1 m) 0) p.words) w tt;
  only_one = λ p w. words_differ (ap (λ m. block_number (account 2 m)) p.words) w tt;
  unmarked = λ p w. words_differ (ap (λ m. word m 0) p.words) w tt;
}

pub add_excluded : (month' : List ℤ) (lent : Buffers) (answer : Result Tally Refusal) → AddExcluded month' lent answer
unfolding code cosine_dft spectrum is_length level first_beyond length_of account plus
add_excluded _ _ _ = record {
  refused_counted = λ p w. words_differ (ap (λ m. block_number (account 1 m)) (stays p tt).0) w tt;
  not_counted = λ p w. words_differ (done_of p).own.words.number w tt;
  last_left_out = λ p w. words_differ ((done_of p).own.words.cosine 1 (lit≤ tt)) w tt;
  counted_in_a_sum = λ p w. words_differ ((done_of p).own.words.cosine 0 (lit≤ tt)) w tt;
  to_the_sines = λ p w. words_differ ((done_of p).own.words.sine 0 (lit≤ tt)) w tt;
  first_block_again = λ p w. words_differ ((done_of p).own.words.cosine 0 (lit≤ tt)) w tt;
  to_the_other = λ p w. words_differ (ap (λ a. cosine_sum a 0) ((done_of p).others.accounts 1 refl (λ e. omega arith))) w tt;
  counted_there = λ p w. words_differ (ap block_number ((done_of p).others.accounts 1 refl (λ e. omega arith))) w tt;
  refused_there = λ p w. words_differ (ap (λ m. block_number (account 1 m)) (stays p tt).0) w tt;
  three_as_two = λ p w. differ (ap number p.verdict) w tt;
  zero_as_one = λ p w. differ (ap number p.verdict) w tt;
  thirteen_first = λ p w. differ (ap number p.verdict) w tt;
  fourteen_first = λ p w. differ (ap number p.verdict) w tt;
  not_always_other = λ p w. differ (ap number p.verdict) w tt;
  one_more = λ p w. differ (ap number p.verdict) w tt;
  by_both = λ p w. differ (ap number p.verdict) w tt;
  by_the_other = λ p w. differ (ap number p.verdict) w tt;
  earlier_goes_on = λ p w. differ (ap number p.verdict) w tt;
  earlier_written = λ p w. words_differ (ap (λ m. word m 2) (stays p tt).0) w tt;
}

pub read_excluded : (told : Result ℤ Refusal) (answer : Result Sums Refusal) → ReadExcluded told answer
unfolding code is_length length_of account
read_excluded _ _ = record {
  number_of_other = λ p w. words_differ (p.number p.verdict) w tt;
  number_of_three = λ p w. differ (ap number p.verdict) w tt;
  number_of_sum = λ p w. words_differ (p.number p.verdict) w tt;
  exchanged = λ p w. words_differ (ap (λ s. s.sine) (p.sums p.verdict)) w tt;
  last_refused = λ p w. differ (ap number p.verdict) w tt;
  one_more = λ p w. differ (ap number p.verdict) w tt;
  sixteen_first = λ p w. differ (ap number p.verdict) w tt;
  any_length = λ w. differ refl w tt;
  length_lost = λ w. differ refl w tt;
  earlier_length = λ w. differ refl w tt;
}

-- ---- laws that would say too much
no_distance : (y E : ℤ) → Within (eighths 0 8) y E → leb (8 * distance y E) 0 ≡ true
no_distance y E w = le-leb (8 * distance y E) 0 (omega (arith, w.near))

pub others_number : (month : List ℤ) → OthersNumber month
unfolding root_of halved unit_step step stepped first_quarter on_half on_circle K T
    nearest round alternate rearranged cosine_beyond sine_beyond dct_beyond apart unrounded rotated dct_by cosine_dft sine_dft dct spectrum
    sum exact_cosine is_length level sum_over
others_number month one two near = false≢true (no_distance _ _ (rw (one.cosine 1 (lit≤ tt)) at near))

begun : {made : List Made} {month : List ℤ} → Calls (new_month 1) made month → Run 1 made month
unfolding is_length
begun calls = record { start = new_month 1; answer = Ok tt; begun = promise 1 refl; calls = calls }

pub others_see : OthersSee
unfolding calls_of seen_by
others_see also =
    let read : Made = record { party = 2; call = read_length; seen = length_read (length_of (new_month 1)) } in
    let same = also 1 [] (read ∷ []) (new_month 1) (new_month 1) (begun none) (begun (more read tells_length none)) refl in
    omega (arith, ap length same)
