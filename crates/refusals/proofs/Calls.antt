-- The tests of a call: what is known of a call that passes them, and back; those on several recordings, from those on the first; the
-- promise of a call that they turn down; and the same of a stored block.
-- Assumes nothing.
use mathlib.Core.Path.{◌≡◌, refl, subst, ◌∙◌}
use mathlib.Core.Bool.{Bool, true, false, not, cond}
use mathlib.Core.List.{List, [], ◌∷◌}
use Prim.Native.Nat.{ℕ, ◌+◌, min, ◌≤◌}
use lib.Dec.{ltb}
use borrow.Author.Tests.{le-ltb, ltb-false, not-false}
use Rattle.words.specs.Words.{Samples}
use Rattle.lengths.specs.Block.{is_length}
use Rattle.lengths.proofs.ElevenLengths.{length_le}
use Rattle.refusals.specs.Refusals.{some_below, scratch_words, Verdict, first_out_in, accepted, Promise}
use Rattle.refusals.specs.declared.refusal.Refusal.{Refusal}
use Rattle.std.specs.Prelude.{Result, Ok, Err, ⊤}
use Rattle.refusals.specs.Answers.{verdict_of, behind}
use Rattle.refusals.specs.Calls.{Call, tests, stored_tests, one_recording}
use Rattle.refusals.specs.Tests.{Tells}
use Rattle.refusals.proofs.Promises.{turned_down, past_test}
use Rattle.refusals.proofs.Conditions.{AllReach, all_reach, reach_all, two_below, AllIn, in_verdict, past_in}

-- ---- a call that passes its tests
pub record Passes (call : Call) : Type 0 where
  pub length_ok : is_length call.N ≡ true
  pub recordings : AllReach (call.start + call.N) call.lengths
  pub results : AllReach call.yields call.results
  pub scratch : scratch_words call.N ≤ call.scratch
  pub allowance : call.products ≤ call.allowance
  pub range : AllIn call.samples call.start call.N

pub passes : (call : Call) → tests call accepted ≡ accepted → Passes call
unfolding tests
passes call e =
    let (good, past_1) = past_test 1 (not (is_length call.N)) e in
    let (inside, past-2) = past_test 2 (some_below (call.start + call.N) call.lengths) past_1 in
    let (room, past_3) = past_test 3 (some_below call.yields call.results) past-2 in
    let (words, past-4) = past_test 4 (ltb call.scratch (scratch_words call.N)) past_3 in
    let (allowed, past_5) = past_test 5 (ltb call.allowance call.products) past-4 in
    record {
      length_ok = not-false _ good;
      recordings = reach_all _ call.lengths inside;
      results = reach_all _ call.results room;
      scratch = ltb-false _ _ words;
      allowance = ltb-false _ _ allowed;
      range = (past_in call.start call.N accepted call.samples past_5).0;
    }

pub is_accepted : {call : Call} → Passes call → (rest : Verdict) → tests call rest ≡ rest
unfolding tests
is_accepted {call} p rest =
    let reach = all_reach (call.start + call.N) call.lengths p.recordings in
    let room = all_reach call.yields call.results p.results in
    rw (p.length_ok, reach, room, le-ltb _ _ p.scratch, le-ltb _ _ p.allowance)
    (in_verdict call.start call.N rest call.samples p.range)

-- ---- the tests of a call on several recordings, from those on the first; `shortest` stands for the lengths of its recordings, `room` for
-- those of its result buffers, and the products need be the call's only where N is a length
of_length : (b : Bool) (u v w : Verdict) → (b ≡ true → v ≡ w) → cond (not b) u v ≡ cond (not b) u w
of_length true u v w e = e refl
of_length false u v w e = refl

module _ (call : Call) {x : Samples} {others : List Samples} (is : call.samples ≡ x ∷ others) (shortest room products : ℕ)
    (below : (n : ℕ) → some_below n call.lengths ≡ some_below n (shortest ∷ []))
    (short : (n : ℕ) → some_below n call.results ≡ some_below n (room ∷ []))
    (spends : is_length call.N ≡ true → products ≡ call.products) where
  pub by_first : {tested : Result ⊤ Refusal}
      → Tells (tests (one_recording x shortest call.start call.N call.allowance room call.yields call.scratch products))
      tested
      → (rest : Verdict) → tests call rest ≡ behind tested (first_out_in others call.start call.N rest)
  unfolding tests
  by_first t rest =
      rw (below (call.start + call.N), short call.yields, is)
      (of_length (is_length call.N) _ _ _ (λ h. rw (spends h)))
      ∙ t.verdict (first_out_in others call.start call.N rest)

-- a call that its tests accept passes them
pub accepted_by : {call : Call} {u : ⊤} → Tells (tests call) (Ok u) → Passes call
accepted_by {call} t = passes call (t.verdict accepted)

module _ (call : Call) {u : ⊤} (t : Tells (tests call) (Ok u)) where
  pub accepted_length : call.N ≤ 1024
  accepted_length = length_le _ (accepted_by t).length_ok

  pub accepted_inside : AllReach (call.start + call.N) call.lengths
  accepted_inside = (accepted_by t).recordings

  pub accepted_scratch : scratch_words call.N ≤ call.scratch
  accepted_scratch = (accepted_by t).scratch

pub ruleset accepted_call = (accepted_length, accepted_inside, accepted_scratch)

-- ---- what tests tell: the promise of a call that is turned down by them, and the verdict on one that passes
module _ {tests : Verdict → Verdict} {tested : Result ⊤ Refusal} (t : Tells tests tested) (rest : Verdict) where
  pub refused_by : {Unchanged Done : Type 0} → Unchanged → {refusal : Refusal} → tested ≡ Err refusal
      → Promise (verdict_of refusal) (tests rest) Unchanged Done
  refused_by u {refusal} e = turned_down refusal u ((subst (Tells tests) e t).verdict rest)

  pub passed_by : tested ≡ Ok tt → tests rest ≡ rest
  passed_by e = (subst (Tells tests) e t).verdict rest

-- ---- a stored block: what is known where its tests are passed, and that they are passed where it is known; of two kinds of coefficients
-- the fewer decide
module _ (N needed : ℕ) where
  pub stored_passes : (stored : List ℕ) {rest : Verdict} → stored_tests N needed stored rest ≡ accepted
      → (is_length N ≡ true) × AllReach needed stored × (rest ≡ accepted)
  unfolding stored_tests
  stored_passes stored e =
      let (good, past_1) = past_test 1 (not (is_length N)) e in
      let (enough, past-2) = past_test 2 (some_below needed stored) past_1 in
      (not-false _ good, reach_all needed stored enough, past-2)

  pub stored_accepted : (stored : List ℕ) (rest : Verdict) → is_length N ≡ true → AllReach needed stored
      → stored_tests N needed stored rest ≡ rest
  unfolding stored_tests
  stored_accepted stored rest ok h = rw (ok, all_reach needed stored h)

  pub stored_two : (a b : ℕ) {m : ℕ} {tested : Result ⊤ Refusal} → m ≡ min a b → Tells (stored_tests N needed (m ∷ [])) tested
      → Tells (stored_tests N needed (a ∷ b ∷ [])) tested
  unfolding stored_tests
  stored_two a b e t = record { verdict = rw (two_below a b e needed) t.verdict }
