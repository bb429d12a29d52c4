-- The verdict on a file, condition by condition: what 8 and 9 follow from, what an accepted file has passed, and when a file is accepted;
-- then a run of the reader behind its tests of lengths.
-- Assumes nothing.
use mathlib.Core.Path.{◌≡◌, refl, sym, ◌∙◌}
use mathlib.Core.Bool.{Bool, true, false, not}
use mathlib.Core.List.{List, [], ◌∷◌}
use Prim.Native.Nat.{ℕ, min, ◌≤◌, ◌<◌}
use native.Mathlib.Omega.{arith}
use lib.Dec.{eqb, ltb}
use lib.IntN.{ℤ, nat_abs}
use lib.ListN.{length}
use borrow.Author.Tests.{le-ltb, ltb-false, eq-eqb, ne_eqb, eqb-true, eqb-false, not-false}
use Rattle.std.proofs.lemmas.Grind.{common_steps}
use Rattle.words.specs.Words.{Written}
use Rattle.lengths.specs.Block.{is_length, largest_sample}
use Rattle.refusals.specs.declared.range.Pass.{Pass}
use Rattle.refusals.specs.declared.refusal.Refusal.TheVariants.{OutOfRange}
use Rattle.refusals.specs.Refusals.{some_below, first_out_or, first_out_in, refused, accepted}
use Rattle.refusals.specs.Passes.{OnePass}
use Rattle.refusals.proofs.Passes.{all_in}
use Rattle.refusals.proofs.Promises.{turned_down, carried_out, past_test}
use Rattle.refusals.proofs.Conditions.{two_below, none_of, found_none, found_at, in_verdict}
use Rattle.std.specs.Prelude.{Ok, Err, Some, None}
use Rattle.pairfile.specs.File.{sample_count, block_length, samples_at, start_of_a, start_of_b, samples_of_a, samples_of_b}
use Rattle.pairfile.specs.File.{header_bytes, most_samples, bad_count, file_bytes, file_verdict}
use Rattle.pairfile.specs.Promises.{ReadPromise}

-- ---- 8: m is 0 or above 4,096, or neither
pub good_count : (m : ℕ) → bad_count m ≡ false → (1 ≤ m) × (m ≤ most_samples)
good_count m e = let (n, l) = none_of (eqb m 0) (ltb most_samples m) e in (omega (arith, eqb-false m 0 n), ltb-false most_samples m l)

pub count_good : (m : ℕ) → 1 ≤ m → m ≤ most_samples → bad_count m ≡ false
count_good m h l = rw (ne_eqb m 0 (λ e. omega arith), le-ltb _ _ l)

-- ---- a file that the conditions 7 and 8, and then 9, do not turn down
pub record Passed8 (file : List ℕ) : Type 0 where
  pub header : header_bytes ≤ length file
  pub count : bad_count (sample_count file) ≡ false

pub record Passed9 (file : List ℕ) : Type 0 where
  pub past : Passed8 file
  pub bytes : length file ≡ file_bytes (sample_count file)

-- ---- a file that is turned down by 8 or 9
module _ (file lent : List ℕ) where
  pub refused_8 : header_bytes ≤ length file → bad_count (sample_count file) ≡ true → file_verdict file lent ≡ refused 8
  unfolding file_verdict
  refused_8 h bad = rw (le-ltb _ _ h, bad)

  pub refused_9 : Passed8 file → (length file ≡ file_bytes (sample_count file) → ⊥) → file_verdict file lent ≡ refused 9
  unfolding file_verdict
  refused_9 p n = rw (le-ltb _ _ p.header, p.count, ne_eqb _ _ n)

-- ---- what an accepted file has passed before its samples are looked at; and that it is accepted where these are in range
pub record Passed3 (file lent : List ℕ) : Type 0 where
  pub past : Passed9 file
  pub length_ok : is_length (block_length file) ≡ true
  pub reach : some_below (sample_count file) lent ≡ false

module _ (file lent : List ℕ) where
  pub accepted_3 : file_verdict file lent ≡ accepted → Passed3 file lent
  unfolding file_verdict
  accepted_3 ok =
      let (header, ok₈) = past_test 7 (ltb (length file) header_bytes) ok in
      let (count, ok₉) = past_test 8 (bad_count (sample_count file)) ok₈ in
      let (bytes, ok₁) = past_test 9 (not (eqb (length file) (file_bytes (sample_count file)))) ok₉ in
      let (blocks, ok₃) = past_test 1 (not (is_length (block_length file))) ok₁ in
      let (reach, _) = past_test 3 (some_below (sample_count file) lent) ok₃ in
      record {
        past = record {
          past = record { header = ltb-false _ _ header; count = count };
          bytes = eqb-true _ _ (not-false _ bytes);
        };
        length_ok = not-false _ blocks;
        reach = reach;
      }

  pub accepted_9 : file_verdict file lent ≡ accepted → Passed9 file
  accepted_9 ok = (accepted_3 ok).past

  pub file_accepted : Passed3 file lent → ((n : ℕ) → n < sample_count file → nat_abs (samples_of_a file n) ≤ largest_sample)
      → ((n : ℕ) → n < sample_count file → nat_abs (samples_of_b file n) ≤ largest_sample) → file_verdict file lent ≡ accepted
  unfolding file_verdict
  file_accepted p range-a range-b =
      let q = p.past in
      rw (le-ltb _ _ q.past.header, q.past.count, eq-eqb _ _ q.bytes, p.length_ok, p.reach)
      (in_verdict 0 (sample_count file) accepted (samples_of_a file ∷ samples_of_b file ∷ []) (
        (λ n _ h. range-a n (omega arith)),
        ((λ n _ h. range-b n (omega arith)), tt),
      ))

-- ---- a run of the reader: behind its tests of lengths, a sample that is out of range, or none
module _ (file : List ℕ) (a b : List ℤ) (m N shortest : ℕ) (bad ok : Bool) (count : m ≡ sample_count file) (is-bad : bad ≡ bad_count m)
    (few : bad ≡ false) (bytes : length file ≡ file_bytes m) (blocks : N ≡ block_length file) (is : ok ≡ is_length N)
    (good : not ok ≡ false) (least : shortest ≡ min (length a) (length b)) (enough : m ≤ shortest) where
  past_3 : file_verdict file (length a ∷ length b ∷ [])
      ≡ first_out_in (samples_at file start_of_a ∷ samples_at file (start_of_b m) ∷ []) 0 m accepted
  unfolding file_verdict
  past_3 = grind (arith, common_steps, two_below)

  module _ (of_a_lem : Pass) (found-a : OnePass largest_sample (samples_at file start_of_a) 0 m of_a_lem) where
    pub a_out : {place : ℕ} → of_a_lem.place ≡ Some place → ReadPromise file a b a b (Err (OutOfRange place))
    a_out {place} e = turned_down (OutOfRange place) (refl, refl) (past_3 ∙ found_at 6 _ found-a e)

    module _ (of_b_lem : Pass) (none-a : of_a_lem.place ≡ None)
        (found-b : OnePass largest_sample (samples_at file (start_of_b m)) 0 m of_b_lem) where
      past_a : file_verdict file (length a ∷ length b ∷ []) ≡ first_out_or (samples_at file (start_of_b m)) 0 m accepted
      past_a = past_3 ∙ found_none 6 _ found-a none-a

      pub b_out : {place : ℕ} → of_b_lem.place ≡ Some place → ReadPromise file a b a b (Err (OutOfRange place))
      b_out {place} e = turned_down (OutOfRange place) (refl, refl) (past_a ∙ found_at 6 accepted found-b e)

      pub read_done : of_b_lem.place ≡ None → {a' b' : List ℤ} → Written 0 m (samples_at file start_of_a) a a'
          → Written 0 m (samples_at file (start_of_b m)) b b' → ReadPromise file a b a' b' (Ok (record { samples = m; length = N }))
      read_done e v w =
          carried_out refl (past_a ∙ found_none 6 accepted found-b e)
          (record {
            samples_is = count;
            length_is = blocks;
            words_of_a = v;
            words_of_b = rw (← count) w;
            sound = record {
              some = (good_count m (sym is-bad ∙ few)).0;
              most = (good_count m (sym is-bad ∙ few)).1;
              length_ok = sym is ∙ not-false ok good;
              range_of_a = λ n h. all_in found-a none-a n (omega arith) (omega arith);
              range_of_b = rw (← count) (λ n h. all_in found-b e n (omega arith) (omega arith));
            };
          })

-- what the check tries
pub ruleset read_tests = (common_steps, turned_down, good_count, two_below)
