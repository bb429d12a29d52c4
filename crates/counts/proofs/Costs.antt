-- The counts of a level from those of the level below, the six counts of a length from its level, and their closed forms.
-- Assumes nothing.
use mathlib.Core.Path.{◌≡◌, ap, ◌∙◌}
use mathlib.Core.Bool.{true}
use Prim.Native.Nat.{ℕ, suc, ◌+◌, ◌-◌, ◌*◌, ◌/◌, ◌^◌, ◌≤◌}
use native.Mathlib.Omega.{arith}
use lib.IntN.{pos}
use Rattle.words.specs.Words.{Samples}
use Rattle.lengths.specs.Block.{top_level, is_length, level}
use Rattle.ffct.specs.Transforms.{evens, folded_sums, folded_differences, rearranged, cosine_dft, sine_dft, dct, spectrum, pair}
use Rattle.lengths.proofs.Lengths.{len, pow_len}
use Rattle.ffct.proofs.Steps.{cosine_products, cosine_sums, sine_products, sine_sums, dct_products, dct_sums}
use Rattle.ffct.proofs.Counts.{few_operations, published}
use Rattle.lengths.proofs.ElevenLengths.{Half, half, twice_length, length_le, level_le, one_level, some_level}
use Rattle.counts.specs.Counts.{Costs, LevelCosts, SixCounts, SixPublished}
use Rattle.counts.specs.declared.cost.Cost.{Cost}
use Rattle.counts.specs.declared.Counts.{Counts}

-- any block will do
zeros : Samples
zeros n = pos 0

module _ {n : ℕ} {C S D : Cost} (l : LevelCosts n C S D) where
  abbrev below : ℕ
  below = level (n / 2)

  halves : Half n
  halves = half n l.length_ok l.some

  is_len : n ≡ 2 * len below
  is_len = halves.twice

  -- the counts at one block
  record At (x : Samples) : Type 0 where
    cosine_of : (C.products ≡ (cosine_dft (suc below) x).products) × (C.sums ≡ (cosine_dft (suc below) x).sums)
    sine_of : (S.products ≡ (sine_dft (suc below) x).products) × (S.sums ≡ (sine_dft (suc below) x).sums)
    dct_of : (D.products ≡ (dct below x).products) × (D.sums ≡ (dct below x).sums)

  at : (x : Samples) → At x
  at x =
      let of_cosine : Costs cosine_dft (suc below) C = rw halves.level_is at l.of_cosine in
      let of_sine : Costs sine_dft (suc below) S = rw halves.level_is at l.of_sine in
      record {
        cosine_of = (of_cosine.products x, of_cosine.sums x);
        sine_of = (of_sine.products x, of_sine.sums x);
        dct_of = (l.of_dct.products x, l.of_dct.sums x);
      }

  -- no count overflows a word
  pub few_counts : (C.products + C.sums ≤ 2 ^ 16) × (S.products + S.sums ≤ 2 ^ 16) × (D.products + D.sums ≤ 2 ^ 16) × (n ≤ 1024)
  few_counts =
      let top : suc below ≤ top_level = omega (arith, halves.level_is, level_le n l.length_ok) in
      omega (
        arith,
        at zeros,
        few_operations (suc below) zeros (omega arith),
        few_operations below zeros (omega arith),
        length_le n l.length_ok,
      )

  -- ---- (23): the DCT of as many samples
  pub dct_next : {t : Cost} → (t.products ≡ C.products + S.products + (3 * (n / 2 - 1) + 1)) × (t.sums ≡ C.sums + S.sums + 3 * (n / 2 - 1))
      → Costs dct (level n) t
  dct_next e =
      rw halves.level_is
      (record {
        products = λ x. omega (arith, is_len, dct_products below x, at (rearranged (2 * len below) x));
        sums = λ x. omega (arith, is_len, dct_sums below x, at (rearranged (2 * len below) x));
      })

  -- ---- the level above, by (24) and (25)
  cosine_next : {t : Cost} → (t.products ≡ C.products + D.products) × (t.sums ≡ C.sums + D.sums + (n / 2 + n))
      → Costs cosine_dft (suc (suc below)) t
  cosine_next e = record {
    products = λ x. omega (arith, cosine_products below x, at (evens x), at (folded_sums (4 * len below) x));
    sums = λ x. omega (arith, is_len, cosine_sums below x, at (evens x), at (folded_sums (4 * len below) x));
  }

  sine_next : {t : Cost} → (t.products ≡ S.products + D.products) × (t.sums ≡ S.sums + D.sums + (n / 2 + (n - 2)))
      → Costs sine_dft (suc (suc below)) t
  sine_next e = record {
    products = λ x. omega (arith, sine_products below x, at (evens x), at (folded_differences (4 * len below) x));
    sums = λ x. omega (arith, is_len, sine_sums below x, at (evens x), at (folded_differences (4 * len below) x));
  }

  pub next_costs : {c s d : Cost} → n ≤ 512
      → (c.products ≡ C.products + D.products) × (c.sums ≡ C.sums + D.sums + (n / 2 + n))
      → (s.products ≡ S.products + D.products) × (s.sums ≡ S.sums + D.sums + (n / 2 + (n - 2)))
      → (d.products ≡ C.products + S.products + (3 * (n / 2 - 1) + 1)) × (d.sums ≡ C.sums + S.sums + 3 * (n / 2 - 1))
      → LevelCosts (2 * n) c s d
  next_costs {c} {s} {d} h of_c of_s of_d =
      let ok = twice_length n l.length_ok h in
      let two : 2 ≤ 2 * n = omega (arith, l.some) in
      let is : 2 * n / 2 ≡ n = omega arith in
      let up : level (2 * n) ≡ suc (suc below) = (half (2 * n) ok two).level_is ∙ ap (λ m. suc (level m)) is ∙ ap suc halves.level_is in
      record {
        length_ok = ok;
        some = two;
        of_cosine = rw up (cosine_next of_c);
        of_sine = rw up (sine_next of_s);
        of_dct = rw is (dct_next of_d);
      }

  -- ---- Spectrum and Pair, by (21) and (22)
  pub six_counts_lem : {counts : Counts} → Costs dct (level n) counts.dct
      → (counts.spectrum.products ≡ C.products + S.products) × (counts.spectrum.sums ≡ C.sums + S.sums)
      → (counts.pair.products ≡ 2 * counts.spectrum.products) × (counts.pair.sums ≡ 2 * counts.spectrum.sums + 2 * (n - 2))
      → SixCounts (level n) counts
  unfolding spectrum pair
  six_counts_lem d e f =
      rw halves.level_is
      (record {
        of_dct = rw halves.level_is at d;
        of_spectrum = λ x. omega (arith, at x);
        of_pair = λ x y. omega (arith, is_len, pow_len (suc below), at x, at y);
      })

-- the closed forms
pub six_published : {N : ℕ} {counts : Counts} → is_length N ≡ true → SixCounts (level N) counts → SixPublished N counts
six_published {N} h c =
    let forms = published (level N) in
    record {
      of_dct = (ap pos (c.of_dct.products zeros) ∙ forms.dct_p zeros, ap pos (c.of_dct.sums zeros) ∙ forms.dct_s zeros);
      of_spectrum = λ l.
          let some = some_level N h l in
          let (products, sums) = c.of_spectrum zeros in
          (ap pos products ∙ forms.spectrum_p zeros some, ap pos sums ∙ forms.spectrum_s zeros some);
      of_pair = λ l.
          let some = some_level N h l in
          let (products, sums) = c.of_pair zeros zeros in
          (ap pos products ∙ forms.pair_p zeros zeros some, ap pos sums ∙ forms.pair_s zeros zeros some);
      nothing_at_one = λ e.
          let spectrum_none = forms.spectrum_at_one zeros (one_level N e) in
          let pair_none = forms.pair_at_one zeros zeros (one_level N e) in (
            (c.of_spectrum zeros).0 ∙ spectrum_none.0,
            (c.of_spectrum zeros).1 ∙ spectrum_none.1,
            (c.of_pair zeros zeros).0 ∙ pair_none.0,
            (c.of_pair zeros zeros).1 ∙ pair_none.1,
          );
    }
