-- The counts that the recursion carries: the length alone decides them, and they are the published closed forms, at all levels and not
-- only the eleven that are accepted (for Spectrum and Pair from N = 2; at N = 1 they are 0).
-- Assumes nothing.
use mathlib.Core.Path.{◌≡◌, refl, ap}
use mathlib.Core.Bool.{Bool}
use Prim.Native.Nat.{ℕ, zero, suc, ◌+◌, ◌*◌, ◌^◌, ◌≤◌}
use native.Mathlib.Nat.{pow-succ', pow-le-pow_right}
use native.Mathlib.Omega.{arith}
use lib.Dec.{T, leb, leb→le, lit<}
use lib.IntN.{ℤ, pos, ◌+ℤ◌, ◌-ℤ◌, ◌*ℤ◌}
use lib.Signed.{shr_z}
use Rattle.whole.proofs.Cases.{both, both_left, both_right, below, below_at}
use Rattle.whole.proofs.Difference.{parts, int, diff, ⊖-same}
use Rattle.whole.proofs.Size.{near}
use Rattle.whole.proofs.Floor.{Floor, floor}
use Rattle.whole.proofs.Powers.{pow_pos}
use Rattle.words.specs.Words.{Samples}
use Rattle.lengths.specs.Block.{top_level}
use Rattle.ffct.specs.Transforms.{evens, folded_sums, folded_differences, rearranged, dct_by, cosine_dft, sine_dft, dct, spectrum, pair}
use Rattle.ffct.specs.Counts.{dct_products, dct_sums, spectrum_products, spectrum_sums, pair_products, pair_sums}
use Rattle.ffct.specs.Limits.{SameCounts, PublishedCounts}

-- ---- the closed forms over ℕ: doubled and with the negative terms on the other side, so that nothing is halved or subtracted

-- N L at the next level. omega reads 2 ^ suc L as twice 2 ^ L, but its product with suc L as an unknown
next : (L : ℕ) → 2 ^ suc L * suc L ≡ 2 * (2 ^ L * L) + 2 * 2 ^ L
next L = omega (arith, ap (λ n. n * suc L) (pow-succ' 2 L))

-- the DCT of level L, with the cosine-DFT and the sine-DFT of the level above it: these three are made of the same three one level down
record Closed (L : ℕ) (x : Samples) : Type 0 where
  dct_p : 2 * (dct L x).products ≡ 2 ^ L * L
  dct_s : 2 * (dct L x).sums + 2 * 2 ^ L ≡ 3 * (2 ^ L * L) + 2
  cosine_p : 2 * (cosine_dft (suc L) x).products + 2 * 2 ^ L ≡ 2 ^ L * L + 2
  cosine_s : 2 * (cosine_dft (suc L) x).sums + 2 * 2 ^ L ≡ 3 * (2 ^ L * L) + 2 * L + 6
  sine_p : 2 * (sine_dft (suc L) x).products + 2 * 2 ^ L ≡ 2 ^ L * L + 2
  sine_s : 2 * (sine_dft (suc L) x).sums + 2 * 2 ^ L + 2 * L ≡ 3 * (2 ^ L * L) + 2

closed : (L : ℕ) (x : Samples) → Closed L x
unfolding dct_by cosine_dft dct
closed zero x = omega arith
closed (suc L) x =
    let even = closed L (evens x) in
    let odd_sums = closed L (folded_sums (2 ^ suc (suc L)) x) in
    let odd_differences = closed L (folded_differences (2 ^ suc (suc L)) x) in
    let moved = closed L (rearranged (2 ^ suc L) x) in
    omega (arith, pow_pos L, next L)

record ClosedSpectrum (L : ℕ) (x : Samples) : Type 0 where
  products : 2 * (spectrum L x).products + 3 * 2 ^ L ≡ 2 ^ L * L + 4
  sums : 2 * (spectrum L x).sums + 5 * 2 ^ L ≡ 3 * (2 ^ L * L) + 8

closed_spectrum : (L : ℕ) (x : Samples) → 1 ≤ L → ClosedSpectrum L x
unfolding spectrum
closed_spectrum zero x h = omega arith
closed_spectrum (suc L) x h = omega (arith, closed L x, next L)

-- ---- "The length alone decides the counts": the closed forms do not mention the samples
record SameParts (L : ℕ) (x y : Samples) : Type 0 where
  cosine_p : (cosine_dft L x).products ≡ (cosine_dft L y).products
  cosine_s : (cosine_dft L x).sums ≡ (cosine_dft L y).sums
  sine_p : (sine_dft L x).products ≡ (sine_dft L y).products
  sine_s : (sine_dft L x).sums ≡ (sine_dft L y).sums
  dct_p : (dct L x).products ≡ (dct L y).products
  dct_s : (dct L x).sums ≡ (dct L y).sums

same_parts : (L : ℕ) (x y : Samples) → SameParts L x y
same_parts zero x y = unfold dct_by cosine_dft dct in omega arith
same_parts (suc L) x y = omega (arith, closed L x, closed L y, closed (suc L) x, closed (suc L) y)

pub same_counts : (L : ℕ) (x y : Samples) → SameCounts L x y
unfolding spectrum pair
same_counts L x y = let s = same_parts L x y in record {
  cosine_p = s.cosine_p;
  cosine_s = s.cosine_s;
  sine_p = s.sine_p;
  sine_s = s.sine_s;
  dct_p = s.dct_p;
  dct_s = s.dct_s;
  spectrum_p = omega arith;
  spectrum_s = omega arith;
  pair_p = λ a b. omega (arith, same_parts L a b);
  pair_s = λ a b. omega (arith, same_parts L a b);
}

-- ---- the closed forms as published, over ℤ: a count d that is N (a - b) + c, or N (a - b) / 2 + c
module _ (N a b c d : ℕ) where
  signed : d + N * b ≡ N * a + c → int d ≡ int N *ℤ (int a -ℤ int b) +ℤ int c
  signed e = simp diff (omega near)

  signed_half : 2 * d + N * b ≡ N * a + 2 * c → int d ≡ shr_z (int N *ℤ (int a -ℤ int b)) 2 +ℤ int c
  signed_half e = go (shr_z (int N *ℤ (int a -ℤ int b)) 2) (floor _ 2 (lit< tt))
    where
      go : (q : ℤ) → Floor (int N *ℤ (int a -ℤ int b)) 2 q → int d ≡ q +ℤ int c
      go q f =
          let s = ⊖-same _ _ _ _ (simp diff at (rw (parts q) at f.split)) in
          let l = f.below in
          rw (parts q) (simp diff (omega near))

spectrum_at_one_lem : (x : Samples) → ((spectrum 0 x).products ≡ 0) × ((spectrum 0 x).sums ≡ 0)
unfolding cosine_dft spectrum
spectrum_at_one_lem x = (refl, refl)

pair_at_one_lem : (a b : Samples) → ((pair 0 a b).products ≡ 0) × ((pair 0 a b).sums ≡ 0)
unfolding cosine_dft spectrum pair
pair_at_one_lem a b = (refl, refl)

pub published : (L : ℕ) → PublishedCounts L
unfolding int pair dct_products dct_sums spectrum_products spectrum_sums pair_products pair_sums
published L = record {
  dct_p = λ x. ap pos (omega (arith, closed L x));
  dct_s = λ x. signed_half (2 ^ L) (3 * L) 2 1 _ (omega (arith, closed L x));
  spectrum_p = λ x h. signed_half (2 ^ L) L 3 2 _ (omega (arith, closed_spectrum L x (omega arith)));
  spectrum_s = λ x h. signed_half (2 ^ L) (3 * L) 5 4 _ (omega (arith, closed_spectrum L x (omega arith)));
  pair_p = λ a b h. signed (2 ^ L) L 3 4 _ (omega (arith, closed_spectrum L a (omega arith), closed_spectrum L b (omega arith)));
  pair_s = λ a b h.
      let some : 1 ≤ L = omega arith in
      signed (3 * 2 ^ L) L 1 4 _
      (omega (arith, closed_spectrum L a some, closed_spectrum L b some, pow-le-pow_right {n = 2} (lit< tt) some));
  spectrum_at_one = λ x e. rw e (spectrum_at_one_lem x);
  pair_at_one = λ a b e. rw e (pair_at_one_lem a b);
}

-- ---- no count of an accepted length overflows a word: a computed test at one block, which says it of all
pub record FewOperations (L : ℕ) (x : Samples) : Type 0 where
  pub cosine : (cosine_dft L x).products + (cosine_dft L x).sums ≤ 2 ^ 16
  pub sine : (sine_dft L x).products + (sine_dft L x).sums ≤ 2 ^ 16
  pub dct : (dct L x).products + (dct L x).sums ≤ 2 ^ 16

zeros : Samples
zeros n = pos 0

few : ℕ → Bool
few L =
    both (leb ((cosine_dft L zeros).products + (cosine_dft L zeros).sums) (2 ^ 16))
    (both (leb ((sine_dft L zeros).products + (sine_dft L zeros).sums) (2 ^ 16))
    (leb ((dct L zeros).products + (dct L zeros).sums) (2 ^ 16)))

few_all : T (below 11 few)
unfolding both below few dct_by cosine_dft dct
few_all = tt

few_at_zeros : (L : ℕ) → L ≤ top_level → FewOperations L zeros
unfolding few
few_at_zeros L h =
    let t = below_at 11 few few_all L (omega arith) in
    record {
      cosine = leb→le _ _ (both_left _ _ t);
      sine = leb→le _ _ (both_left _ _ (both_right _ _ t));
      dct = leb→le _ _ (both_right _ _ (both_right _ _ t));
    }

pub few_operations : (L : ℕ) (x : Samples) → L ≤ top_level → FewOperations L x
few_operations L x h = omega (arith, same_counts L x zeros, few_at_zeros L h)
