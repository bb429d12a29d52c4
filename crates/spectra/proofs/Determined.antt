-- What Spectrum promises determines its outcome: the answer, and what it leaves in the buffers.
-- Assumes nothing.
use mathlib.Core.Path.{◌≡◌, refl, sym, ap, ◌∙◌}
use Prim.Native.Nat.{ℕ}
use Rattle.words.specs.Words.{Samples}
use Rattle.words.proofs.Writing.{written_alike}
use Rattle.counts.specs.declared.tally.Tally.{Tally}
use Rattle.counts.specs.Tally.{none}
use Rattle.refusals.specs.Refusals.{accepted}
use Rattle.refusals.proofs.Promises.{refuses, same_refusal}
use Rattle.std.specs.Prelude.{Result, Ok, Err}
use Rattle.refusals.specs.declared.refusal.Refusal.{Refusal}
use Rattle.refusals.specs.Answers.{answered}
use Rattle.spectra.specs.Answers.{spent}
use Rattle.spectra.specs.Promises.{Buffers, SpectrumDone}

-- ---- an answer is determined by its verdict and by what it has spent; a refusal has spent nothing
pub same_answer : (a b : Result Tally Refusal) → answered a ≡ answered b → spent a ≡ spent b → a ≡ b
same_answer (Err r) (Err s) e f = ap Err (same_refusal r s e)
same_answer (Err r) (Ok u) e f = absurd (refuses r e)
same_answer (Ok t) (Err s) e f = absurd (refuses s (sym e))
same_answer (Ok t) (Ok u) e f = ap Ok f

pub none_spent : (a : Result Tally Refusal) → (answered a ≡ accepted → ⊥) → spent a ≡ none
none_spent (Err r) h = refl
none_spent (Ok t) h = absurd (h refl)

same_tally : {t u : Tally} → t.products ≡ u.products → t.sums ≡ u.sums → t.largest_rest ≡ u.largest_rest → t ≡ u
same_tally e f g = λ i. record { products = e i; sums = f i; largest_rest = g i }

same_buffers : {l m : Buffers} → l.cosine ≡ m.cosine → l.sine ≡ m.sine → l.scratch ≡ m.scratch → l ≡ m
same_buffers e f g = λ i. record { cosine = e i; sine = f i; scratch = g i }

-- ---- an accepted call, made twice
module _ {N : ℕ} {x : Samples} {allowance : ℕ} {lent one other : Buffers} {t u : Tally}
    (p : SpectrumDone N x allowance lent one t) (q : SpectrumDone N x allowance lent other u) where
  pub spent_alike : t ≡ u
  spent_alike =
      let (products, sums) = p.spends.tallied in
      let (products', sums') = q.spends.tallied in
      same_tally (products ∙ sym products') (sums ∙ sym sums') (p.spends.rest ∙ sym q.spends.rest)

  pub left_alike : one ≡ other
  left_alike =
      same_buffers
      (written_alike p.cosine_words q.cosine_words)
      (written_alike p.sine_words q.sine_words)
      (written_alike p.spends.scratch_cleared q.spends.scratch_cleared)
