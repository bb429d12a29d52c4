-- The runs of DftRuns and DctRuns where n is twice h, as the code has them: the even samples' DFT is of h samples, the DCT of h / 2.
-- Assumes nothing.
use mathlib.Core.Path.{◌≡◌}
use mathlib.Core.List.{List}
use Prim.Native.Nat.{ℕ, ◌+◌, ◌-◌, ◌*◌, ◌/◌, ◌≤◌}
use native.Mathlib.Omega.{arith}
use lib.IntN.{ℤ, pos}
use Rattle.words.specs.Words.{Samples}
use Rattle.words.proofs.Parts.{part, back}
use Rattle.ffct.specs.Transforms.{Transform, folded_differences, cosine_dft, sine_dft}
use Rattle.counts.specs.declared.tally.Tally.{Tally}
use Rattle.rotation.specs.Rotation.{RotationReady, Rotated}
use Rattle.transforms.specs.Steps.{DftReady, DftDone, DctReady, DctDone, FoldReady, Folded, even_at, JoinReady, Joined}
use Rattle.transforms.proofs.DftRuns.{Kind, tail, sine_kind}
use Rattle.transforms.proofs.DftRuns as Dft
use Rattle.transforms.proofs.DctRuns as Dct

module _ {transform : ℕ → Samples → Transform} {n h s at : ℕ} {w₀ : List ℤ} {spent : Tally}
    (start : DftReady transform (2 * h) s at w₀ spent)
    (e : n ≡ 2 * h) (l : 2 ≤ h) where
  whole : DftReady transform n s at w₀ spent
  whole = rw e start

  many : 4 ≤ n
  many = omega arith

  half : n / 2 ≡ h
  half = omega arith

  fourth : n / 4 ≡ h / 2
  fourth = omega arith

  module _ {fold : ℕ → Samples → Samples} {join : ℕ → (ℕ → ℤ) → (ℕ → ℤ) → ℕ → ℤ} {joins : ℕ → ℕ} (K : Kind transform fold join joins) where
    pub stride_below : 2 * s ≤ at
    stride_below = Dft.stride_below K whole many

    pub even_ready : DftReady transform h (2 * s) at w₀ spent
    even_ready = rw half at (Dft.even_ready K whole many)

    module _ {w₁ : List ℤ} {t₁ : Tally} (evened : DftDone transform h (2 * s) at w₀ w₁ spent t₁) where
      even : DftDone transform (n / 2) (2 * s) at w₀ w₁ spent t₁
      even = rw half evened

      pub fold_ready : FoldReady n s (tail at n) w₁ t₁
      fold_ready = Dft.fold_ready K whole many even

      module _ {w₂ : List ℤ} {t₂ : Tally} (folded : Folded fold n s (tail at n) w₁ w₂ t₁ t₂) where
        pub odd_ready : DctReady (h / 2) (part (tail at n) w₂) t₂
        odd_ready = rw fourth at (Dft.odd_ready K whole many even folded)

        module _ {p : List ℤ} {t₃ : Tally} (oddened : DctDone (h / 2) (part (tail at n) w₂) p t₂ t₃) where
          odd : DctDone (n / 4) (part (tail at n) w₂) p t₂ t₃
          odd = rw fourth oddened

          pub join_ready : JoinReady (joins n) n at (back (tail at n) w₂ p) t₃
          join_ready = Dft.lent_join_ready K whole many even folded odd

          pub dft_ends : {w₄ : List ℤ} {t₄ : Tally} → Joined join (joins n) n at (back (tail at n) w₂ p) w₄ t₃ t₄ →
              DftDone transform (2 * h) s at w₀ w₄ spent t₄
          dft_ends joined = rw e at (Dft.lent_ends K whole many even folded odd joined)

-- the sine-DFT's join takes two coefficients of the even samples to be zero
module _ {n h s at : ℕ} {w₀ : List ℤ} {spent : Tally} (start : DftReady sine_dft (2 * h) s at w₀ spent) (e : n ≡ 2 * h) (l : 2 ≤ h)
    {w₁ w₂ : List ℤ} {t₁ t₂ : Tally} (evened : DftDone sine_dft h (2 * s) at w₀ w₁ spent t₁)
    (folded : Folded folded_differences n s (tail at n) w₁ w₂ t₁ t₂) where
  pub sine_join_ready : {p : List ℤ} {t₃ : Tally} → DctDone (h / 2) (part (tail at n) w₂) p t₂ t₃ →
      let w₃ = back (tail at n) w₂ p in
      JoinReady (n / 2 - 2) n at w₃ t₃ × (even_at at w₃ 0 ≡ pos 0) × (even_at at w₃ (n / 4) ≡ pos 0)
  sine_join_ready oddened =
      let K = sine_kind in
      Dft.lent_sine_ready (whole start e l) (many start e l) (even start e l K evened) folded (odd start e l K evened folded oddened)

-- ---- the DCT of n samples
module _ {n h : ℕ} {w₀ : List ℤ} {spent : Tally} (start : DctReady (2 * h) w₀ spent) (e : n ≡ 2 * h) (l : 2 ≤ h) where
  two : 2 ≤ 2 * h
  two = omega arith

  pub cosine_ready : DftReady cosine_dft (2 * h) 1 n w₀ spent
  cosine_ready = rw e (Dct.cosine_ready start two)

  module _ {w₁ : List ℤ} {t₁ : Tally} (cosined : DftDone cosine_dft (2 * h) 1 n w₀ w₁ spent t₁) where
    cosine : DftDone cosine_dft (2 * h) 1 (2 * h) w₀ w₁ spent t₁
    cosine = rw e at cosined

    pub sine_ready : DftReady sine_dft (2 * h) 1 (n + n / 2 + 1) w₁ t₁
    sine_ready = rw e (Dct.sine_ready start two cosine)

    module _ {w₂ : List ℤ} {t₂ : Tally} (sined : DftDone sine_dft (2 * h) 1 (n + n / 2 + 1) w₁ w₂ t₁ t₂) where
      sine : DftDone sine_dft (2 * h) 1 (2 * h + 2 * h / 2 + 1) w₁ w₂ t₁ t₂
      sine = rw e at sined

      pub rotation_ready : RotationReady n w₂ t₂
      rotation_ready = rw e (Dct.rotation_ready start two cosine sine)

      pub dct_ends : {w₃ : List ℤ} {t₃ : Tally} → Rotated n w₂ w₃ t₂ t₃ → DctDone (2 * h) w₀ w₃ spent t₃
      dct_ends rotated = Dct.dct_ends start two cosine sine (rw e at rotated)
