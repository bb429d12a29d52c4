-- The tests of the inverse DCT, in their order: the answer at each, and what is known behind the last.
-- Assumes nothing.
use mathlib.Core.Bool.{true}
use mathlib.Core.List.{List, [], ◌∷◌}
use mathlib.Core.Path.{◌≡◌, refl, ◌∙◌}
use Prim.Native.Nat.{ℕ, ◌+◌, ◌*◌, ◌≤◌, ◌<◌}
use native.Mathlib.Omega.{arith}
use lib.IntN.{ℤ, pos, nat_abs}
use lib.ListN.{length, take}
use lib.Seq.{length-take-le, get_or-take}
use borrow.Author.Tests.{lt-ltb, le-ltb}
use Rattle.std.proofs.lemmas.Grind.{common_steps}
use Rattle.words.specs.Words.{word, Written}
use Rattle.words.proofs.Writing.{written_same}
use Rattle.lengths.specs.Block.{is_length}
use Rattle.lengths.proofs.ElevenLengths.{length_pos, length_le}
use Rattle.refusals.specs.declared.range.Pass.{Pass}
use Rattle.refusals.specs.declared.refusal.Refusal.{Refusal}
use Rattle.refusals.specs.declared.refusal.Refusal.TheVariants.{ResultTooShort, BeyondLimit}
use Rattle.std.specs.Prelude.{Result, Ok, Err, Some, None, ⊤}
use Rattle.refusals.specs.Refusals.{accepted, first_beyond_or}
use Rattle.refusals.specs.Calls.{stored_tests}
use Rattle.refusals.specs.Tests.{Tells}
use Rattle.refusals.specs.Passes.{OnePass}
use Rattle.refusals.proofs.Passes.{all_in}
use Rattle.refusals.proofs.Conditions.{none_beyond, found_none, found_at}
use Rattle.refusals.proofs.Promises.{turned_down, carried_out}
use Rattle.refusals.proofs.Calls.{refused_by, passed_by, stored_passes, stored_accepted}
use Rattle.inverse.specs.Inverse.{inverse_dct, largest_coefficient, inverse_verdict}
use Rattle.inverse.specs.Promises.{InversePromise}
use Rattle.inverse.specs.Steps.{Stored}
use Rattle.inverse.proofs.Values.{value_same}

-- ---- the tests, each where those before it are passed
module _ (cs vs : List ℤ) (N : ℕ) {tested : Result ⊤ Refusal} (t : Tells (stored_tests N N (length cs ∷ [])) tested) where
  pub not_stored : {refusal : Refusal} → tested ≡ Err refusal → InversePromise cs N vs vs (Err refusal)
  unfolding inverse_verdict
  not_stored e = refused_by t _ refl e

  module _ (passed : tested ≡ Ok tt) where
    length_ok : is_length N ≡ true
    length_ok = (stored_passes N N _ (passed_by t accepted passed)).0

    pub enough : (N ≤ 1024) × (N ≤ length cs)
    enough = (length_le N length_ok, (stored_passes N N _ (passed_by t accepted passed)).1.0)

    lent : length (take N cs) ≡ N
    lent = length-take-le N cs enough.1

    front : (k : ℕ) → k < N → word (take N cs) k ≡ word cs k
    front k h = get_or-take N cs k (pos 0) h

    pub too_short : length vs < N → InversePromise cs N vs vs (Err ResultTooShort)
    unfolding inverse_verdict
    too_short h = turned_down ResultTooShort refl (passed_by t _ passed ∙ rw (lt-ltb _ _ h))

    module _ (room : N ≤ length vs) {pass : Pass} (found : OnePass (N * 1000000 + N) (word cs) 0 N pass) where
      past : inverse_verdict cs N vs ≡ first_beyond_or 10 (largest_coefficient N) (word cs) 0 N accepted
      unfolding inverse_verdict
      past = passed_by t _ passed ∙ rw (le-ltb _ _ room)

      pub beyond_limit : {place : ℕ} → pass.place ≡ Some place → InversePromise cs N vs vs (Err (BeyondLimit place))
      beyond_limit {place} e = turned_down (BeyondLimit place) refl (past ∙ found_at 10 accepted found e)

      -- behind the last test the N coefficients are lent
      module _ (none : pass.place ≡ None) where
        range : (k : ℕ) → k < N → nat_abs (word cs k) ≤ largest_coefficient N
        range k h = all_in found none k (omega arith) (omega arith)

        pub ready : Stored (length (take N cs)) (take N cs) × (length (take N cs) ≤ length vs)
        ready =
            let stored : Stored N (take N cs) = record {
              length_ok = length_ok;
              enough = omega (arith, lent);
              range = λ k h. rw (front k h) (range k h);
            } in
            rw lent (stored, room)

        pub written : {vs' : List ℤ}
            → let n = length (take N cs) in Written 0 n (inverse_dct n (word (take N cs))) vs vs' → InversePromise cs N vs vs' (Ok tt)
        written w = carried_out refl (past ∙ found_none 10 accepted found none) (record {
          words = written_same (rw lent at w) refl (λ k h. value_same N _ _ k (length_pos N length_ok) front);
          length_ok = length_ok;
          range = range;
        })

-- what the check tries in the run of `inverse_dct`
pub ruleset inverse_tests = (common_steps, length-take-le, not_stored, enough, too_short, beyond_limit, ready, written)

-- ---- the whole verdict where nothing is amiss
pub accepts : (cs vs : List ℤ) (N : ℕ) → is_length N ≡ true → N ≤ length cs → N ≤ length vs
    → ((k : ℕ) → k < N → nat_abs (word cs k) ≤ largest_coefficient N) → inverse_verdict cs N vs ≡ accepted
unfolding inverse_verdict
accepts cs vs N ok enough room range =
    stored_accepted N N _ _ ok (enough, tt)
    ∙ rw (le-ltb _ _ room) (none_beyond 10 _ (word cs) 0 N accepted (λ j _ l. range j (omega arith)))
