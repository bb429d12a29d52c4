-- The transforms of a block in range: what the calls of a run ask after each other, and what they come to.
--     nothing_made                a tally by default
--     ready, ..few, ..small       a block is ready, its counts are few, its coefficients small
--     dfts-ready                  when both DFTs may be made
--     cosine-ready .. dfts-made   both DFTs, of the block loaded in pairs
--     dfts_same                   both DFTs, of a block of the same samples
--     cleared                     the words cleared in the end
--     part_at .. part_stored      coefficients of which a part is stored
--     spectrum-made               Spectrum, of both DFTs
--     dct-ready .. cosine-made    the DCT, of the block loaded in its order
-- Assumes nothing.
use mathlib.Core.Bool.{true}
use mathlib.Core.Path.{◌≡◌, refl, sym, ap, ◌∙◌, subst}
use mathlib.Core.List.{List}
use Prim.Native.Nat.{ℕ, ◌+◌, ◌-◌, ◌*◌, ◌/◌, ◌^◌, ◌≤◌, ◌<◌}
use native.Mathlib.Nat.{mul-le-mul}
use native.Mathlib.Omega.{arith}
use lib.IntN.{ℤ, pos, nat_abs}
use lib.ListN.{length, take, drop, replicate, length-replicate, get_or-replicate, get_or-eq_default}
use lib.Seq.{length-take-le, get_or-take}
use Rattle.std.proofs.lemmas.List.{length-take}
use Rattle.whole.proofs.Size.{within_size}
use Rattle.words.specs.Words.{Samples, word, Written}
use Rattle.words.proofs.Writing.{front, written_same}
use Rattle.words.proofs.Parts.{between, between_at, between_length}
use Rattle.lengths.specs.Block.{AcceptedBlock, is_length, largest_sum, level}
use Rattle.ffct.specs.Transforms.{cosine_dft, sine_dft, dct, spectrum}
use Rattle.ffct.proofs.Blocks.{Same, dft_same, dct_same, spectrum_same}
use Rattle.ffct.proofs.Counts.{FewOperations, few_operations}
use Rattle.ffct.proofs.Sizes.{accepted_inner, dft_size, dct_within}
use Rattle.lengths.proofs.ElevenLengths.{is_power, as_len, level_le, length_le}
use Rattle.counts.specs.declared.tally.Tally.{Tally}
use Rattle.counts.specs.Tally.{none, TalliedAs}
use Rattle.transforms.specs.Pairs.{paired}
use Rattle.transforms.specs.Steps.{Ready, Gives, DftReady, DftDone, DctReady, DctDone, dft_room, dct_room}
use Rattle.transforms.proofs.Pairs.{paired_same}
use Rattle.blocks.specs.Buffers.{words_from, in_pairs}
use Rattle.blocks.specs.Blocks.{InRange, Cleared, DftsReady, DftsMade, SpectrumMade, CosineMade}
use Rattle.blocks.proofs.Pairing.{paired_back}

-- a tally by default
pub nothing_made : {tally : Tally} → (tally.products ≡ 0) × ((tally.sums ≡ 0) × (tally.largest_rest ≡ 0)) → tally ≡ none
nothing_made {tally} (p, (s, r)) =
    let same : tally ≡ record { products = tally.products; sums = tally.sums; largest_rest = tally.largest_rest } = refl in
    same ∙ rw (p, s, r) refl

module _ {n : ℕ} {x : Samples} (r : InRange n x) where
  pub accepted : AcceptedBlock (level n) x
  accepted = record { level_ok = level_le n r.length_ok; range = λ i h. r.range i (omega (arith, is_power n r.length_ok)) }

  -- no count overflows
  few : FewOperations (level n) x
  few = few_operations (level n) x (level_le n r.length_ok)

  pub spectrum_few : ((spectrum (level n) x).products ≤ 2 ^ 17) × ((spectrum (level n) x).sums ≤ 2 ^ 17)
  unfolding spectrum
  spectrum_few = omega (arith, few.cosine, few.sine)

  -- a block of the same samples is ready
  ready : {y : Samples} → ((i : ℕ) → i < n → y i ≡ x i) → Ready n y
  ready e = record {
    length_ok = r.length_ok;
    samples = λ i h. rw (e i h) (omega (arith, mul-le-mul (length_le n r.length_ok) (r.range i h)));
  }

  at_level : {y : Samples} → ((i : ℕ) → i < n → y i ≡ x i) → Same (level n) y x
  at_level e i h = e i (omega (arith, as_len n r.length_ok))

  -- the sizes of the coefficients
  pub cosine_small : (j : ℕ) → j < n / 2 + 1 → nat_abs ((spectrum (level n) x).cosine j) ≤ largest_sum + 128
  unfolding spectrum
  cosine_small j h = within_size (dft_size (accepted_inner accepted) j (omega (arith, as_len n r.length_ok))).0

  pub sine_small : (j : ℕ) → j < n / 2 + 1 → nat_abs ((spectrum (level n) x).sine j) ≤ largest_sum + 128
  unfolding spectrum
  sine_small j h = within_size (dft_size (accepted_inner accepted) j (omega (arith, as_len n r.length_ok))).1

  dct_small : (j : ℕ) → j < n → nat_abs ((dct (level n) x).at j) ≤ largest_sum + 257
  dct_small j h = within_size (dct_within (accepted_inner accepted) j (omega (arith, as_len n r.length_ok)))

  -- both DFTs may be made where there is room behind the block, and the tally is small
  pub dfts_ready : {at : ℕ} {w : List ℤ} {spent : Tally} → n ≤ at → at + (n / 2 + 1) + dft_room n ≤ length w
      → (spent.products ≤ 2 ^ 20) × (spent.sums ≤ 2 ^ 20) → DftsReady n x at w spent
  dfts_ready behind fits small = record { block_ok = r; behind = behind; fits = fits; room = omega (arith, spectrum_few) }

  -- so behind a block that stands at the front
  pub spectrum_ready : {w : List ℤ} → 4 * n + 64 ≤ length w → DftsReady n x n w none
  spectrum_ready room = dfts_ready (omega arith) (omega arith) (omega arith)

-- ---- both DFTs: the block is loaded in pairs
module _ {n : ℕ} {x : Samples} {at : ℕ} {w v : List ℤ} {spent : Tally} (r : DftsReady n x at w spent) (l : Written 0 n (in_pairs n x) w v)
  where
    block₀ : (i : ℕ) → i < n → paired n 1 (word v) i ≡ x i
    block₀ i h = paired_same n 1 (word v) (in_pairs n x) (omega arith) (λ j o. front l j (omega arith)) i h ∙ paired_back n x i h

    cosine_is : cosine_dft (level n) (paired n 1 (word v)) ≡ cosine_dft (level n) x
    cosine_is = (dft_same (level n) _ _ (at_level r.block_ok block₀)).0

    pub cosine_ready : DftReady cosine_dft n 1 at v spent
    unfolding spectrum
    cosine_ready = record {
      ready = ready r.block_ok block₀;
      stride = omega arith;
      behind = omega (arith, r.behind);
      fits = omega (arith, r.fits, l.len);
      room = rw cosine_is (omega (arith, r.room));
    }

    module _ {v₁ : List ℤ} {t₁ : Tally} (cosined : DftDone cosine_dft n 1 at v v₁ spent t₁) where
      cosine_tallied : TalliedAs (cosine_dft (level n) x) spent t₁
      cosine_tallied = subst (λ t. TalliedAs t spent t₁) cosine_is cosined.tallied

      block₁ : (i : ℕ) → i < n → paired n 1 (word v₁) i ≡ x i
      block₁ i h = paired_same n 1 (word v₁) (word v) (omega arith) (λ j o. cosined.front j (omega (arith, r.behind))) i h ∙ block₀ i h

      sine_is : sine_dft (level n) (paired n 1 (word v₁)) ≡ sine_dft (level n) x
      sine_is = (dft_same (level n) _ _ (at_level r.block_ok block₁)).1

      pub sine_ready : DftReady sine_dft n 1 (at + n / 2 + 1) v₁ t₁
      unfolding spectrum
      sine_ready = record {
        ready = ready r.block_ok block₁;
        stride = omega arith;
        behind = omega (arith, r.behind);
        fits = omega (arith, r.fits, l.len, cosined.len);
        room = rw sine_is (omega (arith, r.room, cosine_tallied));
      }

      pub dfts_made : {v₂ : List ℤ} {t₂ : Tally} → DftDone sine_dft n 1 (at + n / 2 + 1) v₁ v₂ t₁ t₂ → DftsMade n x at w v₂ spent t₂
      unfolding spectrum
      dfts_made {v₂} {t₂} sined =
          let sine_tallied = subst (λ t. TalliedAs t t₁ t₂) sine_is sined.tallied in
          record {
            cosine_words = λ k h. sined.front (at + k) (omega arith) ∙ cosined.coefficients k h ∙ ap (λ t. t.at k) cosine_is;
            sine_words = λ k h. sined.coefficients k h ∙ ap (λ t. t.at k) sine_is;
            between = λ k h o. sined.front k (omega arith) ∙ cosined.front k o ∙ l.high k (omega arith);
            tallied = omega (arith, cosine_tallied, sine_tallied);
            len = sined.len ∙ cosined.len ∙ l.len;
          }

-- ---- a transform reads only its block
pub dfts_same : {n at : ℕ} {x y : Samples} {w w' : List ℤ} {spent total : Tally} → is_length n ≡ true → ((i : ℕ) → i < n → x i ≡ y i)
    → DftsMade n x at w w' spent total → DftsMade n y at w w' spent total
dfts_same {n} {x = x} {y = y} ok same m =
    let e = spectrum_same (level n) x y (λ i h. same i (omega (arith, as_len n ok))) in
    record {
      cosine_words = λ k h. m.cosine_words k h ∙ ap (λ t. t.cosine k) e;
      sine_words = λ k h. m.sine_words k h ∙ ap (λ t. t.sine k) e;
      between = m.between;
      tallied = rw e at m.tallied;
      len = m.len;
    }

-- ---- words filled with 0 in the end are cleared, whatever stood there meanwhile
pub cleared : {w : List ℤ} (v : List ℤ) {w' : List ℤ} → length v ≡ length w → w' ≡ replicate (length v) (pos 0) → Cleared w w'
cleared {w} v {w'} e z = record {
  new = λ k h. rw z (get_or-replicate (length v) (0 + k) (pos 0) (pos 0) (omega arith));
  low = λ k h. absurd (omega arith);
  high = λ k h. get_or-eq_default w' (pos 0) (omega (arith, len)) ∙ sym (get_or-eq_default w (pos 0) (omega (arith, h)));
  len = len;
}
  where
    len : length w' ≡ length w
    len = ap length z ∙ length-replicate (length v) (pos 0) ∙ e

-- ---- coefficients that stand in words, where a part of these is stored
module _ (v : List ℤ) (i j : ℕ) {m : ℕ} {f : ℕ → ℤ} (e : j ≡ i + m) (at : (k : ℕ) → k < m → words_from v i k ≡ f k) where
  pub part_at : (k : ℕ) → k < m → word (between i (j - i) v) k ≡ f k
  part_at k h = between_at i (j - i) v k (omega arith) ∙ at k h

  pub part_sized : {L : ℕ} → ((k : ℕ) → k < m → nat_abs (f k) ≤ L) → (k : ℕ) → k < length (between i (j - i) v)
      → nat_abs (word (between i (j - i) v) k) ≤ L
  part_sized small k h =
      let l : k < m = omega (arith, h, length-take (j - i) (drop i v)) in
      rw (part_at k l) (small k l)

  pub part_stored : {out out' : List ℤ} → j ≤ length v
      → Written 0 (length (between i (j - i) v)) (word (between i (j - i) v)) out out' → Written 0 m f out out'
  part_stored l w = written_same w (omega (arith, between_length i (j - i) v (omega arith))) part_at

-- ---- Spectrum: both DFTs stand behind the block
module _ {n at : ℕ} {x : Samples} {w v : List ℤ} {spent total : Tally} (r : InRange n x) (made : DftsMade n x at w v spent total) where
  pub cosine_sized : {j : ℕ} → j ≡ at + (n / 2 + 1) → (k : ℕ) → k < length (between at (j - at) v)
      → nat_abs (word (between at (j - at) v) k) ≤ largest_sum + 257
  cosine_sized {j} e = part_sized v at j e made.cosine_words (λ k h. omega (arith, cosine_small r k h))

  pub sine_sized : {i j : ℕ} → i ≡ at + n / 2 + 1 → j ≡ i + (n / 2 + 1) → (k : ℕ) → k < length (between i (j - i) v)
      → nat_abs (word (between i (j - i) v) k) ≤ largest_sum + 257
  sine_sized {i} {j} p e = part_sized v i j e (rw (sym p) at made.sine_words) (λ k h. omega (arith, sine_small r k h))

pub spectrum_made : {n : ℕ} {x : Samples} {w v w' cosine cosine' sine sine' : List ℤ} {total : Tally} → DftsMade n x n w v none total
    → let m = n / 2 + 1 in n + 2 * m ≤ length v
    → Written 0 (length (between n (n + m - n) v)) (word (between n (n + m - n) v)) cosine cosine'
    → let s = between (n + m) (n + 2 * m - (n + m)) v in Written 0 (length s) (word s) sine sine'
    → w' ≡ replicate (length v) (pos 0) → SpectrumMade n (spectrum (level n) x) cosine sine w cosine' sine' w' total
spectrum_made {n} {v = v} m l c s z =
    let behind : n + n / 2 + 1 ≡ n + (n / 2 + 1) = omega arith in
    record {
      cosine_words = part_stored v n _ refl m.cosine_words (omega arith) c;
      sine_words = part_stored v _ _ (omega arith) (rw behind at m.sine_words) l s;
      cleared = cleared v m.len z;
      tallied = omega (arith, m.tallied);
      rest = omega (arith, m.tallied);
    }

-- ---- the DCT: the block is loaded in its order
module _ {n : ℕ} {x : Samples} {w v : List ℤ} (r : InRange n x) (l : Written 0 n x w v) where
  dct_is : dct (level n) (word v) ≡ dct (level n) x
  dct_is = dct_same (level n) _ _ (at_level r (front l))

  pub dct_ready : dct_room n ≤ length w → DctReady n v none
  dct_ready h = record { ready = ready r (front l); fits = omega (arith, l.len); room = rw dct_is (omega (arith, (few r).dct)) }

  module _ {v₁ : List ℤ} {t₁ : Tally} (done : DctDone n v v₁ none t₁) where
    made : Gives (dct (level n) x) 0 n v v₁ none t₁
    made = subst (λ t. Gives t 0 n v v₁ none t₁) dct_is done

    dct_at : (k : ℕ) → k < n → word (take n v₁) k ≡ (dct (level n) x).at k
    dct_at k h = get_or-take n v₁ k (pos 0) h ∙ ap (word v₁) {x = k} {y = 0 + k} (omega arith) ∙ made.coefficients k h

    pub dct_sized : (k : ℕ) → k < length (take n v₁) → nat_abs (word (take n v₁) k) ≤ largest_sum + 257
    dct_sized k h = let l : k < n = omega (arith, h, length-take n v₁) in rw (dct_at k l) (dct_small r k l)

    pub cosine_made : {coefficients coefficients' w' : List ℤ} → n ≤ length w
        → Written 0 (length (take n v₁)) (word (take n v₁)) coefficients coefficients' → w' ≡ replicate (length v₁) (pos 0)
        → CosineMade n (dct (level n) x) coefficients w coefficients' w' t₁
    cosine_made h s z =
        let len : length v₁ ≡ length w = made.len ∙ l.len in
        record {
          words = written_same s (sym (length-take-le n v₁ (omega arith))) dct_at;
          cleared = cleared v₁ len z;
          tallied = omega (arith, made.tallied);
          rest = omega (arith, made.tallied);
        }
