-- A run of adding to an account that is not full: the promise where Spectrum is refused, and where its block is added.
-- Assumes nothing.
use mathlib.Core.Path.{◌≡◌, refl, sym, ap, ◌∙◌}
use mathlib.Core.Bool.{false}
use mathlib.Core.List.{List}
use Prim.Native.Nat.{ℕ, ◌+◌, ◌/◌, ◌≤◌}
use native.Mathlib.Omega.{arith}
use lib.IntN.{ℤ}
use lib.ListN.{length}
use Rattle.std.specs.Prelude.{Ok, Err}
use Rattle.words.specs.Words.{Samples, word}
use Rattle.words.proofs.Writing.{front}
use Rattle.lengths.proofs.ElevenLengths.{length_le}
use Rattle.counts.specs.declared.tally.Tally.{Tally}
use Rattle.refusals.specs.declared.refusal.Refusal.{Refusal}
use Rattle.refusals.proofs.Promises.{refuses, turned_down, carried_out}
use Rattle.refusals.proofs.Calls.{passes}
use Rattle.spectra.specs.Promises.{Buffers, SpectrumPromise}
use Rattle.months.specs.Accounts.{full, plus, BlockAdded}
use Rattle.months.specs.Promises.{Given, call_of, AccountPromise}
use Rattle.months.proofs.Holding.{one_more}

-- ---- a block added by its coefficients as they stand in their buffers
block_same : {N : ℕ} {c s d e : Samples} {account account' : List ℤ} → ((k : ℕ) → k ≤ N / 2 → c k ≡ d k)
    → ((k : ℕ) → k ≤ N / 2 → s k ≡ e k) → BlockAdded N c s account account' → BlockAdded N d e account account'
block_same cosines sines added = record {
  number = added.number;
  cosine = λ k h. added.cosine k h ∙ ap (plus _) (cosines k h);
  sine = λ k h. added.sine k h ∙ ap (plus _) (sines k h);
  beyond = added.beyond;
  len = added.len;
}

-- ---- a run: Spectrum, and its coefficients added to an account that is not full
module _ (g : Given) {lent' : Buffers} where
  pub spectrum_refused : {account : List ℤ} {refusal : Refusal} → full account ≡ false
      → SpectrumPromise g.recording g.start g.N g.allowance g.lent lent' (Err refusal)
      → AccountPromise g account account lent' (Err refusal)
  spectrum_refused {refusal = refusal} room q = turned_down refusal (refl, q.unchanged (refuses refusal)) (rw room (sym q.verdict))

  module _ {tally : Tally} (q : SpectrumPromise g.recording g.start g.N g.allowance g.lent lent' (Ok tally)) where
    pub add_ready : (g.N ≤ 1024) × (g.N / 2 + 1 ≤ length lent'.cosine) × (g.N / 2 + 1 ≤ length lent'.sine)
    add_ready =
        let passed = passes (call_of g) (sym q.verdict) in
        let done = q.done refl in (
          length_le g.N passed.length_ok,
          omega (arith, passed.results.0, done.cosine_words.len),
          omega (arith, passed.results.1.0, done.sine_words.len),
        )

    pub block_held : {account account' : List ℤ} → full account ≡ false
        → BlockAdded g.N (word lent'.cosine) (word lent'.sine) account account' → AccountPromise g account account' lent' (Ok tally)
    block_held room b =
        let done = q.done refl in
        let added = block_same (λ k h. front done.cosine_words k (omega arith)) (λ k h. front done.sine_words k (omega arith)) b in
        carried_out refl (rw room (sym q.verdict)) (record {
          spectrum = done;
          words = added;
          holds = λ history held. one_more held room done.block added;
        })
