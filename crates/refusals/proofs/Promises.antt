-- The promise of a call that is turned down, and of one that is carried out; what an accepting verdict says of its first test; that a
-- verdict accepts, or does not; and that a refusal is determined by its verdict.
-- Assumes nothing.
use mathlib.Core.Bool.{Bool, true, false, cond}
use mathlib.Core.Logic.{◌⊎◌, inl, inr}
use mathlib.Core.List.{[], ◌∷◌}
use mathlib.Core.Path.{◌≡◌, refl, sym, ap, ◌∙◌}
use Prim.Native.Nat.{ℕ, ◌-◌}
use native.Mathlib.Omega.{arith}
use lib.ListN.{get_or}
use Rattle.refusals.specs.declared.refusal.Refusal.{Refusal}
use Rattle.refusals.specs.declared.refusal.Refusal.TheVariants.{BadLength, InputTooShort, ResultTooShort, ScratchTooShort}
use Rattle.refusals.specs.declared.refusal.Refusal.TheVariants.{AllowanceTooSmall, OutOfRange, BelowHeader, BadCount}
use Rattle.refusals.specs.declared.refusal.Refusal.TheVariants.{BadFileLength, BeyondLimit, RecordingsDiffer, BadFigures}
use Rattle.refusals.specs.declared.refusal.Refusal.TheVariants.{OtherLength, MonthFull, UnknownParty, NotYielded}
use Rattle.refusals.specs.Refusals.{Verdict, refused, refused_at, accepted, Promise}
use Rattle.refusals.specs.Answers.{verdict_of}

-- ---- no refusal accepts
pub not_both : {n i : ℕ} → refused_at n i ≡ accepted → ⊥
not_both e = let z : ◌≡◌ {A = ℕ} 0 1 = cc in omega arith

pub refuses : (refusal : Refusal) → verdict_of refusal ≡ accepted → ⊥
refuses BadLength e = not_both e
refuses InputTooShort e = not_both e
refuses ResultTooShort e = not_both e
refuses ScratchTooShort e = not_both e
refuses AllowanceTooSmall e = not_both e
refuses (OutOfRange place) e = not_both e
refuses BelowHeader e = not_both e
refuses BadCount e = not_both e
refuses BadFileLength e = not_both e
refuses (BeyondLimit place) e = not_both e
refuses RecordingsDiffer e = not_both e
refuses BadFigures e = not_both e
refuses OtherLength e = not_both e
refuses MonthFull e = not_both e
refuses UnknownParty e = not_both e
refuses NotYielded e = not_both e

module _ {stated : Verdict} {Unchanged Done : Type 0} where
  pub turned_down : (refusal : Refusal) → Unchanged → stated ≡ verdict_of refusal → Promise (verdict_of refusal) stated Unchanged Done
  turned_down refusal u e = record { verdict = sym e; unchanged = λ _. u; done = λ a. absurd (refuses refusal a) }

  pub carried_out : {told : Verdict} → told ≡ accepted → stated ≡ accepted → Done → Promise told stated Unchanged Done
  carried_out ok e d = record { verdict = ok ∙ sym e; unchanged = λ no. absurd (no ok); done = λ _. d }

-- a verdict that accepts has passed its first test
pub past_test : (n : ℕ) (b : Bool) {rest : Verdict} → cond b (refused n) rest ≡ accepted → (b ≡ false) × (rest ≡ accepted)
past_test n true e = absurd (not_both e)
past_test n false e = (refl, e)

-- a verdict accepts, or does not
pub accepted_or_not : (v : Verdict) → (v ≡ accepted) ⊎ (v ≡ accepted → ⊥)
accepted_or_not (refused_at n i) = inr not_both
accepted_or_not accepted = inl refl

-- ---- the refusal of a verdict
refusal_of : Verdict → Refusal
refusal_of (refused_at n i) =
    get_or
    (BadLength ∷ InputTooShort ∷ ResultTooShort ∷ ScratchTooShort ∷ AllowanceTooSmall ∷ OutOfRange i
    ∷ BelowHeader ∷ BadCount ∷ BadFileLength ∷ BeyondLimit i ∷ RecordingsDiffer ∷ BadFigures
    ∷ OtherLength ∷ MonthFull ∷ UnknownParty ∷ NotYielded ∷ []) (n - 1) BadLength
refusal_of accepted = BadLength

by_verdict : (refusal : Refusal) → refusal_of (verdict_of refusal) ≡ refusal
unfolding refusal_of
by_verdict BadLength = refl
by_verdict InputTooShort = refl
by_verdict ResultTooShort = refl
by_verdict ScratchTooShort = refl
by_verdict AllowanceTooSmall = refl
by_verdict (OutOfRange place) = refl
by_verdict BelowHeader = refl
by_verdict BadCount = refl
by_verdict BadFileLength = refl
by_verdict (BeyondLimit place) = refl
by_verdict RecordingsDiffer = refl
by_verdict BadFigures = refl
by_verdict OtherLength = refl
by_verdict MonthFull = refl
by_verdict UnknownParty = refl
by_verdict NotYielded = refl

pub same_refusal : (r s : Refusal) → verdict_of r ≡ verdict_of s → r ≡ s
same_refusal r s e = sym (by_verdict r) ∙ ap refusal_of e ∙ by_verdict s
