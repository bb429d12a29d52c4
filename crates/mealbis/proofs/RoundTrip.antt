-- A block sent through Cosine and back: the promises of both calls, joined by the round trip of the definitions.
-- Assumes nothing.
use mathlib.Core.Bool.{true}
use mathlib.Core.List.{List}
use mathlib.Core.Path.{◌≡◌, sym, subst, ◌∙◌}
use Prim.Native.Nat.{ℕ, ◌≤◌, ◌<◌}
use native.Mathlib.Omega.{arith}
use lib.IntN.{ℤ, nat_abs, ◌-ℤ◌}
use Rattle.words.specs.Words.{Samples, word}
use Rattle.words.proofs.Writing.{front}
use Rattle.lengths.specs.Block.{AcceptedBlock, is_length, level}
use Rattle.ffct.specs.Transforms.{dct}
use Rattle.lengths.proofs.ElevenLengths.{is_power, length_pos}
use Rattle.refusals.specs.Refusals.{block, accepted}
use Rattle.refusals.proofs.Calls.{Passes, passes}
use Rattle.spectra.specs.Answers.{spent}
use Rattle.spectra.specs.Promises.{cosine_call, CosineDone}
use Rattle.inverse.specs.Inverse.{inverse_dct, largest_coefficient}
use Rattle.refusals.specs.Answers.{answered}
use Rattle.inverse.proofs.Values.{value_same}
use Rattle.inverse.proofs.Verdicts.{accepts}
use Rattle.inverse.proofs.RoundTrip.{round_trip}
use Rattle.mealbis.specs.RoundTrip.{CosineAndBack}

-- the words cs that Cosine left of a block x of N samples that is accepted
module _ (N : ℕ) (x : Samples) (cs : List ℤ) (ok : is_length N ≡ true) (a : AcceptedBlock (level N) x)
    (coefficients : (k : ℕ) → k < N → word cs k ≡ (dct (level N) x).at k) where
  stored : (k : ℕ) → k < N → nat_abs (word cs k) ≤ largest_coefficient N
  stored k h =
      let power = is_power N ok in
      rw (coefficients k h) (omega (arith, (round_trip (level N) x a).stored k (omega (arith, power)), power))

  near : (n : ℕ) {v : ℤ} → n < N → v ≡ inverse_dct N (word cs) n → nat_abs (v -ℤ x n) ≤ N
  near n h e =
      let power = is_power N ok in
      rw (e ∙ value_same N (word cs) (dct (level N) x).at n (length_pos N ok) coefficients)
      (subst (λ m. nat_abs (inverse_dct m (dct (level N) x).at n -ℤ x n) ≤ m) (sym power)
      ((round_trip (level N) x a).back n (omega (arith, power))))

pub cosine_and_back : CosineAndBack
cosine_and_back r start N allowance cs scratch cs' scratch' cosine p ok values values' back q room =
    (is_accepted, λ n h. near N (block r start) cs' length_ok d.block words n h (front (q.done is_accepted).words n h))
  where
    d : CosineDone N (block r start) allowance cs scratch cs' scratch' (spent cosine)
    d = p.done ok

    passed : Passes (cosine_call r start N allowance cs scratch)
    passed = passes _ (sym p.verdict ∙ ok)

    length_ok : is_length N ≡ true
    length_ok = passed.length_ok

    words : (k : ℕ) → k < N → word cs' k ≡ (dct (level N) (block r start)).at k
    words = front d.words

    is_accepted : answered back ≡ accepted
    is_accepted = q.verdict
        ∙ accepts cs' values N length_ok (omega (arith, d.words.len, passed.results.0)) room
        (stored N (block r start) cs' length_ok d.block words)
