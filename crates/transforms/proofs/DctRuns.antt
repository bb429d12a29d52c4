-- A run of a DCT of n samples, n at least 2: what its calls ask after each other, and what they come to.
--     cosine-ready       the cosine-DFT may be taken of the samples as they stand, which are the rearranged block in pairs
--     sine-ready         then the sine-DFT
--     rotation-ready     then both may be rotated
--     dct-ends           what the rotation leaves is the transform
-- Assumes nothing.
use mathlib.Core.Path.{◌≡◌, sym, ap, ◌∙◌, subst}
use mathlib.Core.List.{List}
use Prim.Native.Nat.{ℕ, ◌+◌, ◌-◌, ◌*◌, ◌/◌, ◌≤◌, ◌<◌, max}
use native.Mathlib.Omega.{arith}
use lib.IntN.{ℤ}
use Rattle.whole.proofs.Size.{within_size}
use Rattle.words.specs.Words.{Samples, word}
use Rattle.lengths.specs.Block.{level}
use Rattle.ffct.specs.Transforms.{Transform, rearranged, rotated, rotation_rest, cosine_dft, sine_dft, dct}
use Rattle.lengths.proofs.Lengths.{len, per, len_per}
use Rattle.lengths.proofs.ElevenLengths.{as_len, level_le, Half, half}
use Rattle.ffct.proofs.Sizes.{dft_size}
use Rattle.ffct.proofs.Blocks.{Same, dft_same, rotated_same, rotation_rest_same}
use Rattle.ffct.proofs.Steps.{dct_step, dct_products, dct_sums, dct_rest}
use Rattle.counts.specs.declared.tally.Tally.{Tally}
use Rattle.counts.specs.Tally.{TalliedAs}
use Rattle.transforms.specs.Pairs.{paired}
use Rattle.rotation.specs.Rotation.{cosine_at, sine_at, RotationReady, Rotated}
use Rattle.transforms.specs.Steps.{Ready, DftReady, DftDone, DctReady, DctDone}
use Rattle.transforms.proofs.Pairs.{paired_source, paired_same, paired_rearranged}
use Rattle.transforms.proofs.Levels.{inner, ready_same}

module _ {n : ℕ} {w₀ : List ℤ} {spent : Tally} (start : DctReady n w₀ spent) (many : 2 ≤ n) where
  H : Half n
  H = half n start.ready.length_ok many

  abbrev l : ℕ
  l = level (n / 2)

  -- the rearranged block
  abbrev z : Samples
  z = rearranged n (word w₀)

  even : 2 * (n / 2) ≡ n
  even = omega (arith, H.twice)

  half_is : n / 2 ≡ len l
  half_is = omega (arith, H.twice)

  block_is : Same (level n) (paired n 1 (word w₀)) z
  block_is i h = paired_rearranged n (word w₀) even i (omega (arith, as_len n start.ready.length_ok))

  abbrev C : Transform
  C = cosine_dft (level n) z

  abbrev S : Transform
  S = sine_dft (level n) z

  whole_counts : ((dct (level n) (word w₀)).products ≡ C.products + S.products + (3 * (n / 2 - 1) + 1))
      × ((dct (level n) (word w₀)).sums ≡ C.sums + S.sums + 3 * (n / 2 - 1))
      × ((dct (level n) (word w₀)).largest_rest ≡ max (max C.largest_rest S.largest_rest) (rotation_rest n C.at S.at))
  whole_counts = rw H.level_is (
    rw (sym H.twice, sym half_is) at (dct_products l (word w₀)),
    rw (sym H.twice, sym half_is) at (dct_sums l (word w₀)),
    rw (sym H.twice) at (dct_rest l (word w₀)),
  )

  block_ready : Ready n (paired n 1 (word w₀))
  block_ready = record {
    length_ok = start.ready.length_ok;
    samples = λ i h.
        let o = paired_source n 1 i (omega arith) h in
        rw (o.2 (word w₀)) (start.ready.samples o.0 (omega (arith, o.1)));
  }

  cosine_is : cosine_dft (level n) (paired n 1 (word w₀)) ≡ C
  cosine_is = (dft_same (level n) _ _ block_is).0

  pub cosine_ready : DftReady cosine_dft n 1 n w₀ spent
  cosine_ready = record {
    ready = block_ready;
    stride = omega arith;
    behind = omega arith;
    fits = omega (arith, start.fits, H.twice);
    room = rw cosine_is (omega (arith, start.room, whole_counts));
  }

  -- ---- after the cosine-DFT
  module _ {w₁ : List ℤ} {t₁ : Tally} (cosined : DftDone cosine_dft n 1 n w₀ w₁ spent t₁) where
    cosine_tallied : TalliedAs C spent t₁
    cosine_tallied = subst (λ t. TalliedAs t spent t₁) cosine_is cosined.tallied

    block₁ : (i : ℕ) → i < n → paired n 1 (word w₁) i ≡ paired n 1 (word w₀) i
    block₁ = paired_same n 1 (word w₁) (word w₀) (omega arith) (λ j h. cosined.front j (omega arith))

    sine_is : sine_dft (level n) (paired n 1 (word w₁)) ≡ S
    sine_is = (dft_same (level n) _ _ (λ i h. block₁ i (omega (arith, as_len n start.ready.length_ok)) ∙ block_is i h)).1

    -- where the sine-DFT goes
    abbrev at : ℕ
    at = n + n / 2 + 1

    pub sine_ready : DftReady sine_dft n 1 at w₁ t₁
    sine_ready = record {
      ready = ready_same block_ready block₁;
      stride = omega arith;
      behind = omega arith;
      fits = omega (arith, start.fits, H.twice, cosined.len);
      room = rw sine_is (omega (arith, start.room, whole_counts, cosine_tallied));
    }

    -- ---- after the sine-DFT
    module _ {w₂ : List ℤ} {t₂ : Tally} (sined : DftDone sine_dft n 1 at w₁ w₂ t₁ t₂) where
      sine_tallied : TalliedAs S t₁ t₂
      sine_tallied = subst (λ t. TalliedAs t t₁ t₂) sine_is sined.tallied

      cosine_word : (k : ℕ) → k ≤ n / 2 → cosine_at n w₂ k ≡ (cosine_dft (level n) (paired n 1 (word w₀))).at k
      cosine_word k h = sined.front (n + k) (omega arith) ∙ cosined.coefficients k (omega arith)

      sine_word : (k : ℕ) → k ≤ n / 2 → sine_at n w₂ k ≡ (sine_dft (level n) (paired n 1 (word w₁))).at k
      sine_word k h = sined.coefficients k (omega arith)

      pub rotation_ready : RotationReady n w₂ t₂
      rotation_ready =
          let e = as_len n start.ready.length_ok in
          record {
            length_ok = start.ready.length_ok;
            some = many;
            fits = omega (arith, start.fits, H.twice, sined.len, cosined.len);
            cosine_small = λ k h. rw (cosine_word k (omega arith)) (within_size (dft_size (inner block_ready) k (omega (arith, e))).0);
            sine_small = λ k h. rw (sine_word k (omega arith)) (within_size (dft_size (inner sine_ready.ready) k (omega (arith, e))).1);
            room = omega (arith, start.room, whole_counts, cosine_tallied, sine_tallied);
          }

      pub dct_ends : {w₃ : List ℤ} {t₃ : Tally} → Rotated n w₂ w₃ t₂ t₃ → DctDone n w₀ w₃ spent t₃
      dct_ends rot = record {
        coefficients = λ k h. rot.words.new k h ∙ rotated_is k h ∙ sym (whole_at k);
        front = λ k h. absurd (omega arith);
        tallied = omega (arith, whole_counts, cosine_tallied, sine_tallied, rot.tallied, rest_is);
        len = rot.words.len ∙ sined.len ∙ cosined.len;
      }
        where
          whole_at : (k : ℕ) → (dct (level n) (word w₀)).at k ≡ rotated n C.at S.at k
          whole_at k = rw H.level_is (rw (sym H.twice) at (dct_step l (word w₀) k))

          per_is : 2 * (n / 2) * per (level n) ≡ 1024
          per_is =
              let ok = start.ready.length_ok in
              rw even (ap (λ m. m * per (level n)) (as_len n ok) ∙ len_per (level n) (level_le n ok))

          cosine_at_lem : (j : ℕ) → j ≤ n / 2 → cosine_at n w₂ j ≡ C.at j
          cosine_at_lem j o = cosine_word j o ∙ ap (λ t. t.at j) cosine_is

          sine_at_lem : (j : ℕ) → j ≤ n / 2 → sine_at n w₂ j ≡ S.at j
          sine_at_lem j o = sine_word j o ∙ ap (λ t. t.at j) sine_is

          rotated_is : (k : ℕ) → k < n → rotated n (cosine_at n w₂) (sine_at n w₂) k ≡ rotated n C.at S.at k
          rotated_is k h =
              rw even at (rotated_same (n / 2) (per (level n)) _ _ _ _ per_is cosine_at_lem sine_at_lem k (omega (arith, even)))

          rest_is : rotation_rest n (cosine_at n w₂) (sine_at n w₂) ≡ rotation_rest n C.at S.at
          rest_is = rw even at (rotation_rest_same (n / 2) (per (level n)) _ _ _ _ per_is cosine_at_lem sine_at_lem)
