-- Document 01, "The transforms", with the counts that their steps carry, and the largest rest of document 02, (v). Equation numbers are
-- those of paper 001. N is 2 ^ L throughout.
use Rattle.std.specs.Prelude.{cond, ℕ, zero, suc, ◌+◌, ◌-◌, ◌*◌, ◌/◌, ◌^◌, max, ltb, leb, eqb, ℤ, pos, neg_ℤ, ◌+ℤ◌, ◌-ℤ◌, ◌*ℤ◌}
use Rattle.whole.specs.Round.{round, rest_size}
use Rattle.whole.specs.Largest.{largest}
use Rattle.circle.specs.Circle.{T}
use Rattle.words.specs.Words.{Samples}

-- what a transform gives: coefficient k, and the products and sums that its steps make. "Sign changes, moves, sums with a term that is
-- zero for every block, sums of table entries alone and the half in a rounding are free." And "the largest size, without sign, that a rest
-- has among all roundings" of its steps, "0 where nothing was rounded"
pub record Transform : Type 0 where
  pub at : ℕ → ℤ
  pub products : ℕ
  pub sums : ℕ
  pub largest_rest : ℕ

-- ---- the samples that the steps transform; N is the length of x

-- x1 of (12): "the even samples"
abbrev pub evens : Samples → Samples
evens x n = x (2 * n)

-- x2 of (12): "x(2n+1) + x(N−2n−1)"
abbrev pub folded_sums : ℕ → Samples → Samples
folded_sums N x n = x (2 * n + 1) +ℤ x (N - 2 * n - 1)

-- (−1)^n z
unfoldable pub alternate : ℕ → ℤ → ℤ
alternate zero z = z
alternate (suc n) z = neg_ℤ (alternate n z)

-- x3 of (15): "(−1)^n·(x(2n+1) − x(N−2n−1))"
abbrev pub folded_differences : ℕ → Samples → Samples
folded_differences N x n = alternate n (x (2 * n + 1) -ℤ x (N - 2 * n - 1))

-- x4 of (16): x(2n) at n and x(2n+1) at N − n − 1, for n = 0 .. N/2 − 1
unfoldable pub rearranged : ℕ → Samples → Samples
rearranged N x n = cond (ltb n (N / 2)) (x (2 * n)) (x (2 * (N - n - 1) + 1))

-- ---- "Out-of-range k by (6) to (10), applied to values already rounded." N is the length of the transform; the values of cosine- and
-- sine-DFT stand at 0 .. N/2, those of the DCT at 0 .. N − 1

-- (9): cosine-DFT(N − k) = cosine-DFT(k), for k up to N
unfoldable pub cosine_beyond : ℕ → (ℕ → ℤ) → ℕ → ℤ
cosine_beyond N C k = cond (leb k (N / 2)) (C k) (C (N - k))

-- (10): sine-DFT(N − k) = −sine-DFT(k), for k up to N
unfoldable pub sine_beyond : ℕ → (ℕ → ℤ) → ℕ → ℤ
sine_beyond N S k = cond (leb k (N / 2)) (S k) (neg_ℤ (S (N - k)))

-- (6): DCT(N) = 0, and (8): DCT(2N − k) = −DCT(k), for k up to 2N
unfoldable pub dct_beyond : ℕ → (ℕ → ℤ) → ℕ → ℤ
dct_beyond N D k = cond (ltb k N) (D k) (cond (eqb k N) (pos 0) (neg_ℤ (D (2 * N - k))))

-- (7): DCT(−k) = DCT(k), so that DCT(a − b) is taken at the size of a − b
unfoldable pub apart : ℕ → ℕ → ℕ
apart a b = (a - b) + (b - a)

-- ---- (18), (19): the DCT of length N from the cosine-DFT C and the sine-DFT S of its rearranged samples

-- "with c = T(1024k/N) and s = T(1024 − 1024k/N)"
abbrev pub c : ℕ → ℕ → ℤ
c N k = T (1024 * k / N)

abbrev pub s : ℕ → ℕ → ℤ
s N k = T (1024 - 1024 * k / N)

-- "For k = 1 .. N/2−1 ..: DCT(k) is c·C(k) − s·S(k) and DCT(N−k) is s·C(k) + c·S(k); DCT(N/2) is T(512)·C(N/2)", before the rounding
unfoldable pub unrounded : ℕ → (ℕ → ℤ) → (ℕ → ℤ) → ℕ → ℤ
unrounded N C S k =
    cond (ltb k (N / 2)) (c N k *ℤ C k -ℤ s N k *ℤ S k)
    (cond (eqb k (N / 2)) (T 512 *ℤ C (N / 2))
    (let j = N - k in s N j *ℤ C j +ℤ c N j *ℤ S j))

-- "DCT(0) = C(0)." Else "Each whole expression is rounded once."
unfoldable pub rotated : ℕ → (ℕ → ℤ) → (ℕ → ℤ) → ℕ → ℤ
rotated N C S k = cond (eqb k 0) (C 0) (round (unrounded N C S k))

-- the largest size of a rest among these roundings, which are those of DCT(1) .. DCT(N − 1)
unfoldable pub rotation_rest : ℕ → (ℕ → ℤ) → (ℕ → ℤ) → ℕ
rotation_rest N C S = largest (N - 1) (λ i. rest_size (unrounded N C S (i + 1)))

-- the DCT of level L, given the cosine-DFT and the sine-DFT of that level. "N = 1: .. DCT(0) = x(0)", at no cost. "DCT from N = 2:
-- rearrange by (16), take the cosine-DFT C and sine-DFT S of the same length", then rotate. (23): "three products and three sums for each
-- pair k, N−k by (20), one product for DCT(N/2)"
unfoldable pub dct_by : ℕ → (Samples → Transform) → (Samples → Transform) → Samples → Transform
dct_by zero cosine sine x = record { at = λ k. x 0; products = 0; sums = 0; largest_rest = 0 }
dct_by (suc L) cosine sine x =
    let N = 2 ^ suc L in
    let C = cosine (rearranged N x) in
    let S = sine (rearranged N x) in
    let pairs = N / 2 - 1 in
    record {
      at = rotated N C.at S.at;
      products = C.products + S.products + (3 * pairs + 1);
      sums = C.sums + S.sums + 3 * pairs;
      largest_rest = max (max C.largest_rest S.largest_rest) (rotation_rest N C.at S.at);
    }

-- ---- cosine-DFT and sine-DFT: "From N = 4, cosine-DFT by (12) .. Sine-DFT by (15) .."

unfoldable mutual
  -- "N = 1: cosine-DFT(0) = .. x(0)"; "N = 2: cosine-DFT is x(0) + x(1), x(0) − x(1)", two sums by (26); from N = 4 (12): "that of N/2 on
  -- the even samples plus the DCT of N/4 on x(2n+1) + x(N−2n−1)". (24): N/4 sums of samples and N/2 sums of coefficients, for
  -- k = 0 .. N/2 without k = N/4, where (6) makes a term zero
  pub cosine_dft : ℕ → Samples → Transform
  cosine_dft zero x = record { at = λ k. x 0; products = 0; sums = 0; largest_rest = 0 }
  cosine_dft (suc zero) x = record { at = λ k. cond (eqb k 0) (x 0 +ℤ x 1) (x 0 -ℤ x 1); products = 0; sums = 2; largest_rest = 0 }
  cosine_dft (suc (suc L)) x =
      let N = 2 ^ suc (suc L) in
      let even = cosine_dft (suc L) (evens x) in
      let odd = dct_by L (λ y. cosine_dft L y) (λ y. sine_dft L y) (folded_sums N x) in
      record {
        at = λ k. cosine_beyond (N / 2) even.at k +ℤ dct_beyond (N / 4) odd.at k;
        products = even.products + odd.products;
        sums = even.sums + odd.sums + (N / 4 + N / 2);
        largest_rest = max even.largest_rest odd.largest_rest;
      }

  -- "N = 1: .. sine-DFT(0) = 0"; "N = 2: .. sine-DFT is 0", no sum by (26); from N = 4 (15): "that of N/2 on the even samples plus
  -- DCT(N/4 − k) of (−1)^n·(x(2n+1) − x(N−2n−1))". (25): N/4 sums of samples and N/2 − 2 sums of coefficients, for k = 1 .. N/2 − 1 without
  -- k = N/4, where (10) makes a term zero
  pub sine_dft : ℕ → Samples → Transform
  sine_dft zero x = record { at = λ k. pos 0; products = 0; sums = 0; largest_rest = 0 }
  sine_dft (suc zero) x = record { at = λ k. pos 0; products = 0; sums = 0; largest_rest = 0 }
  sine_dft (suc (suc L)) x =
      let N = 2 ^ suc (suc L) in
      let even = sine_dft (suc L) (evens x) in
      let odd = dct_by L (λ y. cosine_dft L y) (λ y. sine_dft L y) (folded_differences N x) in
      record {
        at = λ k. sine_beyond (N / 2) even.at k +ℤ dct_beyond (N / 4) odd.at (apart (N / 4) k);
        products = even.products + odd.products;
        sums = even.sums + odd.sums + (N / 4 + (N / 2 - 2));
        largest_rest = max even.largest_rest odd.largest_rest;
      }

-- ---- the DCT-II
unfoldable pub dct : ℕ → Samples → Transform
dct L x = dct_by L (λ y. cosine_dft L y) (λ y. sine_dft L y) x

-- ---- Spectrum: both transforms, with the counts of (21)
pub record Spectrum : Type 0 where
  pub cosine : ℕ → ℤ
  pub sine : ℕ → ℤ
  pub products : ℕ
  pub sums : ℕ
  pub largest_rest : ℕ

unfoldable pub spectrum : ℕ → Samples → Spectrum
spectrum L x =
    let C = cosine_dft L x in
    let S = sine_dft L x in
    record {
      cosine = C.at;
      sine = S.at;
      products = C.products + S.products;
      sums = C.sums + S.sums;
      largest_rest = max C.largest_rest S.largest_rest;
    }

-- ---- Pair, recordings a and b: "real(k) = C_a(k) + S_b(k), imaginary(k) = C_b(k) − S_a(k), with (9), (10) above N/2", for
-- k = 0 .. N − 1. (22): two sums for each k but k = 0 and k = N/2, where the sine-DFT is zero for every block (at N = 1 there is none:
-- 2 · (1 − 2) is 0 on natural numbers)
pub record PairSpectrum : Type 0 where
  pub real : ℕ → ℤ
  pub imaginary : ℕ → ℤ
  pub products : ℕ
  pub sums : ℕ
  pub largest_rest : ℕ

unfoldable pub pair : ℕ → Samples → Samples → PairSpectrum
pair L a b =
    let N = 2 ^ L in
    let of_a = spectrum L a in
    let of_b = spectrum L b in
    record {
      real = λ k. cosine_beyond N of_a.cosine k +ℤ sine_beyond N of_b.sine k;
      imaginary = λ k. cosine_beyond N of_b.cosine k -ℤ sine_beyond N of_a.sine k;
      products = of_a.products + of_b.products;
      sums = of_a.sums + of_b.sums + 2 * (N - 2);
      largest_rest = max of_a.largest_rest of_b.largest_rest;
    }
