-- Where the recursion ends: the transforms of one and two samples.
-- Assumes nothing.
use mathlib.Core.Path.{◌≡◌, refl, sym, ap, ◌∙◌}
use mathlib.Core.List.{List}
use Prim.Native.Nat.{ℕ, zero, suc, ◌+◌, ◌-◌, ◌*◌, ◌/◌, ◌≤◌}
use native.Mathlib.Nat.{le_refl}
use native.Mathlib.Omega.{arith}
use lib.IntN.{ℤ, pos, nat_abs, ◌+ℤ◌, ◌-ℤ◌, ◌*ℤ◌}
use lib.ListN.{set}
use Rattle.whole.proofs.Size.{size_within, within_size, within_le, within_sub}
use Rattle.whole.specs.Round.{round, rest_size}
use Rattle.whole.specs.Largest.{largest}
use Rattle.words.specs.Words.{Samples, word, Written}
use Rattle.words.proofs.Writing.{written_one, written_more, written_same}
use Rattle.circle.specs.Circle.{T}
use Rattle.lengths.specs.Block.{level, largest_sum}
use Rattle.ffct.specs.Transforms.{Transform, dct_by, cosine_dft, sine_dft, dct, rearranged}
use Rattle.ffct.specs.Transforms.{unrounded, rotated, rotation_rest}
use Rattle.lengths.proofs.Lengths.{len, len_pos}
use Rattle.lengths.proofs.ElevenLengths.{as_len}
use Rattle.counts.specs.declared.tally.Tally.{Tally}
use Rattle.counts.specs.Tally.{Tallied, TalliedAs, Summed}
use Rattle.transforms.specs.Pairs.{paired}
use Rattle.transforms.specs.Steps.{Gives, DftReady, DftDone, DctReady, DctDone}
use Rattle.transforms.proofs.Pairs.{paired_near, paired_far}
use Rattle.transforms.proofs.Levels.{sample_le}

-- words written are the coefficients
pub gives : {t : Transform} {at m : ℕ} {before after : List ℤ} {spent total : Tally} → Written at m t.at before after →
    TalliedAs t spent total → Gives t at m before after spent total
gives w t = record { coefficients = w.new; front = w.low; tallied = t; len = w.len }

-- ---- the samples of a block of one or two in pairs
paired_0 : (n s : ℕ) (z : Samples) → 1 ≤ n → paired n s z 0 ≡ z 0
paired_0 n s z h = paired_near n s z 0 (omega arith) ∙ ap z (omega arith)

paired_1 : (s : ℕ) (z : Samples) → paired 2 s z 1 ≡ z (2 * s - 1)
paired_1 s z = paired_far 2 s z 1 (omega arith) ∙ ap z (omega arith)

module _ {s at : ℕ} {w : List ℤ} {spent : Tally} where
  pub cosine_one : {n : ℕ} {v : ℤ} → DftReady cosine_dft n s at w spent → n ≡ 1 → v ≡ word w 0 →
      DftDone cosine_dft n s at w (set w at v) spent spent
  unfolding level cosine_dft
  cosine_one r e d = rw e (gives (written_one (omega (arith, r.fits)) (d ∙ sym (paired_0 1 s (word w) (omega arith)))) (omega arith))

  pub cosine_two : {u v : ℤ} {total : Tally} → DftReady cosine_dft 2 s at w spent → u ≡ word w 0 +ℤ word w (2 * s - 1) →
      v ≡ word w 0 -ℤ word w (2 * s - 1) →
      Summed 2 spent total → DftDone cosine_dft 2 s at w (set (set w at u) (at + 1) v) spent total
  unfolding level cosine_dft
  cosine_two r e d t =
      let x = paired_0 2 s (word w) (omega arith) in
      let y = paired_1 s (word w) in
      gives (written_more (written_one (omega (arith, r.fits)) (e ∙ rw (x, y))) (omega (arith, r.fits)) (d ∙ rw (x, y)))
      (omega (arith, t))

-- the sine-DFT of one or two samples
none : (L : ℕ) (x : Samples) → len L ≤ 2 →
    ((k : ℕ) → (sine_dft L x).at k ≡ pos 0) × ((sine_dft L x).products ≡ 0) × ((sine_dft L x).sums ≡ 0) × ((sine_dft L x).largest_rest ≡ 0)
unfolding sine_dft
none zero x h = (λ k. refl, refl, refl, refl)
none (suc zero) x h = (λ k. refl, refl, refl, refl)
none (suc (suc L)) x h = absurd (omega (arith, len_pos L))

pub sine_few : {n s at : ℕ} {w v : List ℤ} {spent : Tally} → DftReady sine_dft n s at w spent → n ≤ 2 →
    Written at (n / 2 + 1) (λ k. pos 0) w v →
    DftDone sine_dft n s at w v spent spent
sine_few {n} {s} {w = w} r h z =
    let e = none (level n) (paired n s (word w)) (omega (arith, as_len n r.ready.length_ok)) in
    gives (written_same z refl (λ k l. sym (e.0 k))) (omega (arith, e))

-- ---- the DCT of one sample is that sample
pub dct_one : {n : ℕ} {w : List ℤ} {spent : Tally} → DctReady n w spent → n ≡ 1 → DctDone n w w spent spent
unfolding level dct dct_by
dct_one {w = w} r e = rw e (record {
  coefficients = λ k h. ap (word w) (omega arith);
  front = λ k h. refl;
  tallied = omega arith;
  len = refl;
})

-- ---- the DCT of two
pub dct_two : {w : List ℤ} {u v : ℤ} {spent total : Tally} → DctReady 2 w spent → u ≡ word w 0 +ℤ word w 1 →
    v ≡ round (T 512 *ℤ (word w 0 -ℤ word w 1)) →
    Tallied 1 2 (rest_size (T 512 *ℤ (word w 0 -ℤ word w 1))) spent total → DctDone 2 w (set (set w 0 u) 1 v) spent total
unfolding level dct dct_by cosine_dft unrounded rotated rotation_rest largest rearranged
dct_two r e d t = gives (written_more (written_one (omega (arith, r.fits)) e) (omega (arith, r.fits)) d) (omega (arith, t))

-- ---- the sizes of two samples
pub dft_pair_small : {transform : ℕ → Samples → Transform} {s at : ℕ} {w : List ℤ} {spent : Tally} → DftReady transform 2 s at w spent →
    (nat_abs (word w 0) ≤ largest_sum) × (nat_abs (word w (2 * s - 1)) ≤ largest_sum)
dft_pair_small {s = s} {w = w} r = (
  rw (paired_0 2 s (word w) (omega arith)) at (sample_le r.ready 0 (omega arith)),
  rw (paired_1 s (word w)) at (sample_le r.ready 1 (omega arith)),
)

pub dct_pair_small : {w : List ℤ} {spent : Tally} → DctReady 2 w spent →
    (nat_abs (word w 0) ≤ largest_sum) × (nat_abs (word w 1) ≤ largest_sum) × (nat_abs (word w 0 -ℤ word w 1) ≤ largest_sum + 128)
dct_pair_small {w} r =
    let u = r.ready.samples 0 (omega arith) in
    let v = r.ready.samples 1 (omega arith) in (
      omega arith,
      omega arith,
      within_size (within_le (within_sub (size_within (word w 0) (le_refl _)) (size_within (word w 1) (le_refl _))) (omega arith)),
    )
