-- A run of the call that marks a block: what figures that are accepted say, and the promise at its end.
-- Assumes nothing.
use mathlib.Core.Path.{◌≡◌, refl, sym, ap, ◌∙◌}
use mathlib.Core.Bool.{false, true≢false}
use mathlib.Core.List.{List}
use Prim.Native.Nat.{ℕ, ◌+◌, ◌/◌, ◌≤◌}
use native.Mathlib.Omega.{arith}
use lib.IntN.{ℤ, pos, negsuc, nat_abs}
use lib.ListN.{length}
use lib.Signed.{lt_z}
use borrow.Author.Tests.{ltb-false}
use Rattle.std.specs.Prelude.{Ok}
use Rattle.words.specs.Words.{word}
use Rattle.words.proofs.Writing.{front}
use Rattle.counts.specs.declared.tally.Tally.{Tally}
use Rattle.refusals.specs.Refusals.{block}
use Rattle.refusals.specs.Calls.{verdict}
use Rattle.refusals.proofs.Conditions.{none_of}
use Rattle.refusals.proofs.Promises.{carried_out}
use Rattle.refusals.proofs.Calls.{passes}
use Rattle.spectra.specs.declared.marks.Mark.{Mark}
use Rattle.spectra.specs.Marks.{mark, bad_figures, mark_verdict}
use Rattle.spectra.specs.Promises.{Buffers, spectrum_call, SpectrumPromise, MarkPromise}
use Rattle.spectra.proofs.MarkRules.{mark_same}

-- ---- figures that are accepted
natural : (z : ℤ) (n : ℕ) → lt_z z (pos n) ≡ false → (z ≡ pos (nat_abs z)) × (n ≤ nat_abs z)
natural (pos m) n e = (refl, ltb-false m n e)
natural (negsuc m) n e = absurd (true≢false e)

pub record Figures (flat_limit clip_level : ℤ) : Type 0 where
  pub flat_is : flat_limit ≡ pos (nat_abs flat_limit)
  pub clip_is : clip_level ≡ pos (nat_abs clip_level)
  pub clip_some : 1 ≤ nat_abs clip_level

pub figures : (flat_limit clip_level : ℤ) → bad_figures flat_limit clip_level ≡ false → Figures flat_limit clip_level
figures f c e =
    let (not_negative, of-clip) = none_of (lt_z f (pos 0)) _ e in
    let (some, _) = none_of (lt_z c (pos 1)) (lt_z (pos 1000000) c) of-clip in
    let (clip_is, clip_some) = natural c 1 some in
    record { flat_is = (natural f 0 not_negative).0; clip_is = clip_is; clip_some = clip_some }

-- ---- a run, behind Spectrum
module _ (r : List ℤ) (start N allowance : ℕ) (flat_limit clip_level : ℤ) (good : bad_figures flat_limit clip_level ≡ false)
    {limit level : ℕ} (is-limit : limit ≡ nat_abs flat_limit) (is-level : level ≡ nat_abs clip_level)
    (lent lent' : Buffers) {tally : Tally} (made : SpectrumPromise r start N allowance lent lent' (Ok tally)) where
  pub marking_ready : (1 ≤ level) × (start + N ≤ length r) × (N / 2 + 1 ≤ length lent'.cosine) × (N / 2 + 1 ≤ length lent'.sine)
  marking_ready =
      let passed = passes (spectrum_call r start N allowance lent) (sym made.verdict) in
      let done = made.done refl in (
        omega (arith, is-level, (figures flat_limit clip_level good).clip_some),
        passed.recordings.0,
        omega (arith, passed.results.0, done.cosine_words.len),
        omega (arith, passed.results.1.0, done.sine_words.len),
      )

  pub marking_done : {m : Mark} → m ≡ mark (pos limit) (pos level) N (block r start) (word lent'.cosine) (word lent'.sine)
      → MarkPromise r start N allowance flat_limit clip_level lent lent' (Ok (record { mark = m; spent = tally }))
  marking_done is =
      let done = made.done refl in
      let figures = figures flat_limit clip_level good in
      let call = spectrum_call r start N allowance lent in
      let same : mark_verdict call flat_limit clip_level ≡ verdict call = rw good in
      carried_out refl (same ∙ sym made.verdict) (record {
        spectrum = done;
        marked = ap (λ (m : Mark). Ok (record { mark = m; spent = tally }))
            (rw (is-limit, is-level, ← figures.flat_is, ← figures.clip_is) at is
            ∙ mark_same flat_limit clip_level N (block r start) (front done.cosine_words) (front done.sine_words));
      })
