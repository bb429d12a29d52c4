-- Pair: the DFTs of both blocks stand one behind another, and are joined. Assumes nothing.
use mathlib.Core.Path.{◌≡◌, refl, ap, ap₂, ◌∙◌}
use mathlib.Core.List.{List, ◌++◌}
use Prim.Native.Nat.{ℕ, zero, suc, ◌+◌, ◌-◌, ◌*◌, ◌/◌, ◌^◌, ◌≤◌, ◌<◌}
use native.Mathlib.Omega.{arith}
use lib.IntN.{ℤ, pos, ◌+ℤ◌, ◌-ℤ◌}
use lib.ListN.{length, take, drop, replicate, get_or-append}
use lib.Seq.{length-take-le, length_front, get_or-take, get_or-drop, get_or-append-add}
use Rattle.words.specs.Words.{Samples, word, Written}
use Rattle.words.proofs.Writing.{written_same}
use Rattle.words.proofs.Parts.{between, between_at, between_length}
use Rattle.lengths.specs.Block.{level}
use Rattle.ffct.specs.Transforms.{cosine_beyond, sine_beyond, sine_dft, spectrum, pair}
use Rattle.lengths.proofs.Lengths.{pow_len}
use Rattle.lengths.proofs.ElevenLengths.{is_power, length_pos, length_le, half}
use Rattle.ffct.proofs.Blocks.{sine_first, sine_last, cosine_beyond_same, sine_beyond_same}
use Rattle.counts.specs.declared.tally.Tally.{Tally}
use Rattle.counts.specs.Tally.{none}
use Rattle.blocks.specs.Buffers.{cosine_of_a, sine_of_a, cosine_of_b, sine_of_b, Joinable, PartsReady, PartsPut}
use Rattle.blocks.specs.Blocks.{InRange, DftsReady, DftsMade, PairMade}
use Rattle.blocks.proofs.BlockRuns.{cosine_small, sine_small, spectrum_few, dfts_ready, dfts_same, cleared}

-- where the sine-DFT is zero
sine_half : (L n : ℕ) (x : Samples) → n ≡ 2 ^ L → (sine_dft L x).at (n / 2) ≡ pos 0
sine_half zero n x e = ap (sine_dft zero x).at {x = n / 2} {y = 0} (omega (arith, e)) ∙ sine_first zero x
sine_half (suc L) n x e = sine_last (suc L) x (n / 2) (omega (arith, e, pow_len (suc L)))

-- the cosine-DFT of x and the sine-DFT of y, where they stand
joinable : {n : ℕ} {x y : Samples} {C S : ℕ → ℤ} → InRange n x → InRange n y
    → ((k : ℕ) → k < n / 2 + 1 → C k ≡ (spectrum (level n) x).cosine k) → ((k : ℕ) → k < n / 2 + 1 → S k ≡ (spectrum (level n) y).sine k)
    → Joinable n C S
unfolding spectrum
joinable {n} {x} {y} okX okY c s = record {
  first = s 0 (omega arith) ∙ sine_first (level n) y;
  half = s (n / 2) (omega arith) ∙ sine_half (level n) n y (is_power n okY.length_ok);
  cosine_small = λ k h. rw (c k h) (cosine_small okX k h);
  sine_small = λ k h. rw (s k h) (sine_small okY k h);
}

-- the front of a buffer, lent and put back
put_back : {n : ℕ} {f : ℕ → ℤ} {out out' : List ℤ} → n ≤ length out → Written 0 n f (take n out) out' → Written 0 n f out
    (out' ++ drop n out)
put_back {n} {f} {out} {out'} h p =
    let len : length out' ≡ n = p.len ∙ length-take-le n out h in
    record {
      new = λ k l. get_or-append out' (drop n out) (pos 0) (0 + k) (omega (arith, len)) ∙ p.new k l;
      low = λ k l. absurd (omega arith);
      high = λ k l.
          ap (word (out' ++ drop n out)) {x = k} {y = length out' + (k - n)} (omega (arith, len))
          ∙ get_or-append-add out' (drop n out) (k - n) (pos 0)
          ∙ get_or-drop n out (k - n) (pos 0)
          ∙ ap (word out) {x = n + (k - n)} {y = k} (omega arith);
      len = length_front out out' n p.len;
    }

-- ---- the front of b is the second block
module _ {n : ℕ} (b : List ℤ) (long : n ≤ length b) (ok : InRange n (word b)) where
  front_length : length (take n b) ≡ n
  front_length = length-take-le n b long

  pub front_ready : {at : ℕ} {w : List ℤ} {spent : Tally} → (InRange n (word (take n b)) → DftsReady n (word (take n b)) at w spent)
      → DftsReady (length (take n b)) (word (take n b)) at w spent
  front_ready f =
      rw front_length (f (record { length_ok = ok.length_ok; range = λ i h. rw (get_or-take n b i (pos 0) h) (ok.range i h) }))

  pub front_made : {at : ℕ} {w w' : List ℤ} {spent total : Tally} → DftsMade (length (take n b)) (word (take n b)) at w w' spent total
      → DftsMade n (word b) at w w' spent total
  front_made m = dfts_same ok.length_ok (λ i h. get_or-take n b i (pos 0) h) (rw front_length at m)

module _ {n : ℕ} {x y : Samples} {w w₁ : List ℤ} {t₁ : Tally} (okX : InRange n x) (okY : InRange n y) (room : 4 * n + 64 ≤ length w)
    (A : DftsMade n x n w w₁ none t₁) where
  pub b_ready : DftsReady n y (n + 2 * (n / 2 + 1)) w₁ t₁
  b_ready = dfts_ready okY (omega arith) (omega (arith, A.len)) (omega (arith, A.tallied, spectrum_few okX))

  module _ {w₂ : List ℤ} {t₂ : Tally} (B : DftsMade n y (n + 2 * (n / 2 + 1)) w₁ w₂ t₁ t₂) where
    -- the words that are lent
    abbrev dfts : List ℤ
    dfts = between n (n + 4 * (n / 2 + 1) - n) w₂

    lent : (k : ℕ) → k < 4 * (n / 2 + 1) → word dfts k ≡ word w₂ (n + k)
    lent k h = between_at n (n + 4 * (n / 2 + 1) - n) w₂ k (omega arith)

    cosine_a : (k : ℕ) → k < n / 2 + 1 → cosine_of_a n dfts k ≡ (spectrum (level n) x).cosine k
    cosine_a k h = lent k (omega arith) ∙ B.between (n + k) (omega arith) (omega arith) ∙ A.cosine_words k h

    sine_a : (k : ℕ) → k < n / 2 + 1 → sine_of_a n dfts k ≡ (spectrum (level n) x).sine k
    sine_a k h =
        let place : n + (n / 2 + 1 + k) ≡ n + n / 2 + 1 + k = omega arith in
        lent (n / 2 + 1 + k) (omega arith) ∙ B.between (n + (n / 2 + 1 + k)) (omega arith) (omega arith) ∙ rw place (A.sine_words k h)

    cosine_b : (k : ℕ) → k < n / 2 + 1 → cosine_of_b n dfts k ≡ (spectrum (level n) y).cosine k
    cosine_b k h =
        let place : n + (2 * (n / 2 + 1) + k) ≡ n + 2 * (n / 2 + 1) + k = omega arith in
        lent (2 * (n / 2 + 1) + k) (omega arith) ∙ rw place (B.cosine_words k h)

    sine_b : (k : ℕ) → k < n / 2 + 1 → sine_of_b n dfts k ≡ (spectrum (level n) y).sine k
    sine_b k h =
        let place : n + (3 * (n / 2 + 1) + k) ≡ n + 2 * (n / 2 + 1) + n / 2 + 1 + k = omega arith in
        lent (3 * (n / 2 + 1) + k) (omega arith) ∙ rw place (B.sine_words k h)

    pub parts_ready : (real imaginary : List ℤ) → (n ≤ length real) × (n ≤ length imaginary)
        → PartsReady (length (take n real)) dfts (take n real) (take n imaginary) t₂
    parts_ready real imaginary f =
        let ok = okX.length_ok in
        let at_real = length-take-le n real f.0 in
        let at_imaginary = length-take-le n imaginary f.1 in
        let parts : PartsReady n dfts (take n real) (take n imaginary) t₂ = record {
          some = length_pos n ok;
          whole = λ h. omega (arith, (half n ok (omega (arith, length_pos n ok))).twice);
          fits = omega (arith, between_length n (n + 4 * (n / 2 + 1) - n) w₂ (omega (arith, A.len, B.len)));
          real_fits = omega (arith, at_real);
          imaginary_fits = omega (arith, at_imaginary);
          of_real = joinable okX okY cosine_a sine_b;
          of_imaginary = joinable okY okX cosine_b sine_a;
          room = omega (arith, A.tallied, B.tallied, spectrum_few okX, spectrum_few okY, length_le n ok);
        } in
        rw at_real parts

    pub pair_made : {real imaginary real' imaginary' w' : List ℤ} {t₃ : Tally} → (n ≤ length real) × (n ≤ length imaginary)
        → PartsPut (length (take n real)) dfts (take n real) (take n imaginary) real' imaginary' t₂ t₃
        → w' ≡ replicate (length w₂) (pos 0)
        → PairMade n (pair (level n) x y) real imaginary w (real' ++ drop n real) (imaginary' ++ drop n imaginary) w' t₃
    unfolding pair
    pair_made {real} {imaginary} f put z =
        let p = rw (length-take-le n real f.0) at put in
        let power : n ≡ 2 ^ level n = is_power n okX.length_ok in
        record {
          real_words = written_same (put_back f.0 p.real_words) refl (joined ◌+ℤ◌ power cosine_a sine_b);
          imaginary_words = written_same (put_back f.1 p.imaginary_words) refl (joined ◌-ℤ◌ power cosine_b sine_a);
          cleared = cleared w₂ (B.len ∙ A.len) z;
          tallied = omega (arith, A.tallied, B.tallied, p.tallied, power);
          rest = omega (arith, A.tallied.rest, B.tallied.rest, p.tallied.rest);
        }
      where
        joined : (op : ℤ → ℤ → ℤ) → n ≡ 2 ^ level n → {C S C' S' : ℕ → ℤ} → ((j : ℕ) → j < n / 2 + 1 → C j ≡ C' j) →
            ((j : ℕ) → j < n / 2 + 1 → S j ≡ S' j) → (k : ℕ) → k < n →
            op (cosine_beyond n C k) (sine_beyond n S k) ≡ op (cosine_beyond (2 ^ level n) C' k) (sine_beyond (2 ^ level n) S' k)
        joined op power {C} {S} {C'} {S'} c s k h =
            ap₂ op (cosine_beyond_same n C C' k (omega arith) (λ j l. c j (omega arith)))
            (sine_beyond_same n S S' k (omega arith) (λ j l. s j (omega arith)))
            ∙ ap (λ N. op (cosine_beyond N C' k) (sine_beyond N S' k)) power
