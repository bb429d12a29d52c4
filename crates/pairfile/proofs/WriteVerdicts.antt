-- What an accepted input has passed; and a run of the writer behind its first tests.
-- Assumes nothing.
use mathlib.Core.Path.{◌≡◌, refl, sym, ◌∙◌}
use mathlib.Core.Bool.{Bool, true, false, not, cond}
use mathlib.Core.List.{List, [], ◌∷◌}
use Prim.Native.Nat.{ℕ, ◌+◌, ◌≤◌, ◌<◌}
use native.Mathlib.Omega.{arith}
use lib.Dec.{eqb, ltb}
use lib.IntN.{ℤ}
use lib.ListN.{length}
use borrow.Author.Tests.{lt-ltb, le-ltb, ltb-false, eq-eqb, eqb-true, not-false}
use Rattle.std.proofs.lemmas.Grind.{common_steps}
use Rattle.words.specs.Words.{word}
use Rattle.words.specs.Put.{Put}
use Rattle.lengths.specs.Block.{is_length, largest_sample}
use Rattle.lengths.proofs.ElevenLengths.{length_le}
use Rattle.refusals.specs.declared.range.Pass.{Pass}
use Rattle.refusals.specs.declared.refusal.Refusal.TheVariants.{ResultTooShort, OutOfRange}
use Rattle.std.specs.Prelude.{Ok, Err, Some, None}
use Rattle.refusals.specs.Refusals.{first_out_or, first_out_in, Verdict, refused, accepted}
use Rattle.refusals.specs.Passes.{AllWithin, OnePass}
use Rattle.refusals.proofs.Passes.{all_in}
use Rattle.refusals.proofs.Promises.{turned_down, carried_out, past_test}
use Rattle.refusals.proofs.Conditions.{found_none, found_at, in_verdict, past_in}
use Rattle.pairfile.specs.File.{bad_count, file_bytes}
use Rattle.pairfile.specs.OwnFile.{pair_file, write_verdict}
use Rattle.pairfile.specs.Promises.{Sound, WritePromise}
use Rattle.pairfile.proofs.Verdicts.{good_count, count_good}
use Rattle.pairfile.proofs.OwnFiles.{file_length}

-- ---- what an accepted input has passed
pub record Passed (a b : List ℤ) (N room : ℕ) : Type 0 where
  pub same : length b ≡ length a
  pub sound : Sound (length a) N (word a) (word b)
  pub fits : file_bytes (length a) ≤ room

-- what the tests before the last leave
in_range_lem : (a b : List ℤ) (N : ℕ) → bad_count (length a) ≡ false → is_length N ≡ true →
    AllWithin largest_sample (word a) 0 (0 + length a)
    → AllWithin largest_sample (word b) 0 (0 + length a) → Sound (length a) N (word a) (word b)
in_range_lem a b N few ok range-a range-b = record {
  some = (good_count (length a) few).0;
  most = (good_count (length a) few).1;
  length_ok = ok;
  range_of_a = λ n h. range-a n (omega arith) (omega arith);
  range_of_b = λ n h. range-b n (omega arith) (omega arith);
}

module _ (a b : List ℤ) (N room : ℕ) where
  pub input_passed : write_verdict a b N room ≡ accepted → Passed a b N room
  unfolding write_verdict
  input_passed e =
      let (few, past-8) = past_test 8 (bad_count (length a)) e in
      let (alike, past-11) = past_test 11 (not (eqb (length b) (length a))) past-8 in
      let (good, past_1) = past_test 1 (not (is_length N)) past-11 in
      let ((range-a, (range-b, _)), past_6) = past_in 0 (length a) _ (word a ∷ word b ∷ []) past_1 in
      let (long, _) = past_test 3 (ltb room (file_bytes (length a))) past_6 in
      let same = eqb-true (length b) (length a) (not-false _ alike) in
      record { same = same; sound = in_range_lem a b N few (not-false _ good) range-a range-b; fits = ltb-false _ _ long }

  pub input_accepted : Passed a b N room → write_verdict a b N room ≡ accepted
  unfolding write_verdict
  input_accepted s =
      let in-a : AllWithin largest_sample (word a) 0 (0 + length a) = λ n _ h. s.sound.range_of_a n (omega arith) in
      let in_b : AllWithin largest_sample (word b) 0 (0 + length a) = λ n _ h. s.sound.range_of_b n (omega arith) in
      rw (count_good (length a) s.sound.some s.sound.most, eq-eqb _ _ s.same, s.sound.length_ok)
      (in_verdict 0 (length a) _ (word a ∷ word b ∷ []) (in-a, (in_b, tt)) ∙ rw (le-ltb _ _ s.fits))

-- ---- a run of the writer: behind its first tests, a sample that is out of range, or none
module _ (a b : List ℤ) (N : ℕ) (buffer : List ℕ) (bad ok : Bool) (is-bad : bad ≡ bad_count (length a)) (few : bad ≡ false)
    (same : length b ≡ length a) (is : ok ≡ is_length N) (good : not ok ≡ false)
    (of_a_lem : Pass) (found-a : OnePass largest_sample (word a) 0 (length a) of_a_lem) where
  abbrev last : Verdict
  last = cond (ltb (length buffer) (file_bytes (length a))) (refused 3) accepted

  past_1 : write_verdict a b N (length buffer) ≡ first_out_in (word a ∷ word b ∷ []) 0 (length a) last
  unfolding write_verdict
  past_1 = rw (← is-bad, few, eq-eqb _ _ same, ← is, good)

  pub a_out : {place : ℕ} → of_a_lem.place ≡ Some place → WritePromise a b N buffer buffer (Err (OutOfRange place))
  a_out {place} e = turned_down (OutOfRange place) refl (past_1 ∙ found_at 6 _ found-a e)

  module _ (of_b_lem : Pass) (none-a : of_a_lem.place ≡ None) (found-b : OnePass largest_sample (word b) 0 (length a) of_b_lem) where
    past_a : write_verdict a b N (length buffer) ≡ first_out_or (word b) 0 (length a) last
    past_a = past_1 ∙ found_none 6 _ found-a none-a

    pub b_out : {place : ℕ} → of_b_lem.place ≡ Some place → WritePromise a b N buffer buffer (Err (OutOfRange place))
    b_out {place} e = turned_down (OutOfRange place) refl (past_a ∙ found_at 6 last found-b e)

    module _ (none-b : of_b_lem.place ≡ None) where
      past_6 : write_verdict a b N (length buffer) ≡ last
      past_6 = past_a ∙ found_none 6 last found-b none-b

      pub too_short : length buffer < file_bytes (length a) → WritePromise a b N buffer buffer (Err ResultTooShort)
      too_short h = turned_down ResultTooShort refl (past_6 ∙ rw (lt-ltb _ _ h))

      pub written : file_bytes (length a) ≤ length buffer → {buffer' : List ℕ} {bytes : ℕ} → Put buffer 0 (pair_file a b N) bytes buffer'
          → WritePromise a b N buffer buffer' (Ok bytes)
      written h p =
          let sound = in_range_lem a b N (sym is-bad ∙ few) (sym is ∙ not-false ok good) (all_in found-a none-a) (all_in found-b none-b) in
          carried_out refl (past_6 ∙ rw (le-ltb _ _ h))
          (record { file = p; bytes_is = omega (arith, p.next_is, file_length a b N same); same = same; sound = sound })

-- what the check tries
pub ruleset write_tests = (common_steps, turned_down, good_count, length_le)
