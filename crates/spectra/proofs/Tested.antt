-- The tests of the calls: refused where the count query refuses, and else what the tests on the first recording tell.
-- Assumes nothing.
use Rattle.std.proofs.Common.{◌≡◌, ℕ, ◌+◌, min, Bool, true, false, not, cond, List, length, ℤ, Ok, Err, sym, refl, ◌∙◌, ◌≤◌, arith}
use Rattle.std.specs.Prelude.{Result, ⊤, Some, None}
use Rattle.words.specs.Words.{word}
use Rattle.lengths.specs.Block.{is_length, largest_sample, spectrum_yields}
use Rattle.counts.specs.declared.Counts.{Counts}
use Rattle.refusals.specs.declared.refusal.Refusal.{Refusal}
use Rattle.refusals.specs.declared.range.Pass.{Pass}
use Rattle.refusals.specs.declared.refusal.Refusal.TheVariants.{OutOfRange}
use Rattle.refusals.specs.Refusals.{Verdict, refused, accepted, first_out_or}
use Rattle.refusals.specs.Passes.{OnePass}
use Rattle.refusals.specs.Calls.{Call, tests, one_recording}
use Rattle.refusals.specs.Tests.{Tells}
use Rattle.refusals.specs.Answers.{verdict_of, behind}
use Rattle.refusals.proofs.Promises.{refuses}
use Rattle.refusals.proofs.Conditions.{two_below, found_none, found_at}
use Rattle.refusals.proofs.Calls.{by_first, passes}
use Rattle.spectra.specs.Promises.{CountsPromise, buffers, pair_buffers, spectrum_call, cosine_call, pair_call}

refused_first : (b : Bool) (refusal : Refusal) (rest : Verdict) → verdict_of refusal ≡ cond b (refused 1) accepted
    → cond b (refused 1) rest ≡ verdict_of refusal
refused_first true refusal rest e = sym e
refused_first false refusal rest e = absurd (refuses refusal e)

pub uncounted : (call : Call) {refusal : Refusal} → CountsPromise call.N (Err refusal) → Tells (tests call) (Err refusal)
unfolding tests
uncounted call {refusal} p = record { verdict = λ rest. refused_first (not (is_length call.N)) refusal _ p.verdict }

module _ (start N allowance : ℕ) {counts : Counts} (p : CountsPromise N (Ok counts)) where
  pub cosine_tested : (recording coefficients scratch : List ℤ) {tested : Result ⊤ Refusal}
      → Tells (tests (one_recording (word recording) (length recording) start N allowance
      (length coefficients) N (length scratch) counts.dct.products)) tested
      → Tells (tests (cosine_call recording start N allowance coefficients scratch)) tested
  cosine_tested recording coefficients scratch t =
      let call = cosine_call recording start N allowance coefficients scratch in
      record { verdict = by_first call refl _ _ _ (λ n. refl) (λ n. refl) (λ h. (p.counted refl).0.of_dct.products _) t }

  pub spectrum_tested : (recording cosine sine scratch : List ℤ) {room : ℕ} {tested : Result ⊤ Refusal}
      → room ≡ min (length cosine) (length sine)
      → Tells (tests (one_recording (word recording) (length recording) start N allowance
      room (spectrum_yields N) (length scratch) counts.spectrum.products)) tested
      → Tells (tests (spectrum_call recording start N allowance (buffers cosine sine scratch))) tested
  spectrum_tested recording cosine sine scratch room t =
      let call = spectrum_call recording start N allowance (buffers cosine sine scratch) in
      record { verdict = by_first call refl _ _ _ (λ n. refl) (two_below _ _ room) (λ h. ((p.counted refl).0.of_spectrum _).0) t }

  -- ---- Pair: behind the tests on a, 6 on b
  module _ (a b real imaginary scratch : List ℤ) {shortest room : ℕ}
      (is-shortest : shortest ≡ min (length a) (length b)) (is-room : room ≡ min (length real) (length imaginary)) where
    abbrev pub on_both : Call
    on_both = pair_call a b start N allowance (pair_buffers real imaginary scratch)

    abbrev pub on_a : Call
    on_a = one_recording (word a) shortest start N allowance room N (length scratch) counts.pair.products

    told : {tested : Result ⊤ Refusal} → Tells (tests on_a) tested → (rest : Verdict)
        → tests on_both rest ≡ behind tested (first_out_or (word b) start N rest)
    told t =
        by_first on_both refl _ _ _ (two_below _ _ is-shortest) (two_below _ _ is-room)
        (λ h. ((p.counted refl).0.of_pair _ _).0) t

    pub pair_refused : {refusal : Refusal} → Tells (tests on_a) (Err refusal) → Tells (tests on_both) (Err refusal)
    pair_refused t = record { verdict = told t }

    module _ (t : Tells (tests on_a) (Ok tt)) where
      pub b_inside : start + N ≤ length b
      b_inside = omega (arith, (passes on_a (t.verdict accepted)).recordings.0)

      module _ {pass : Pass} (found : OnePass largest_sample (word b) start N pass) where
        pub b_out_of_range : {place : ℕ} → pass.place ≡ Some place → Tells (tests on_both) (Err (OutOfRange place))
        b_out_of_range e = record { verdict = λ rest. told t rest ∙ found_at 6 rest found e }

        pub pair_passed : pass.place ≡ None → Tells (tests on_both) (Ok tt)
        pair_passed e = record { verdict = λ rest. told t rest ∙ found_none 6 rest found e }

-- what the tests of Pair cite
pub ruleset pair_tests = (uncounted, pair_refused, b_inside, b_out_of_range, pair_passed)
