-- What the functions between samples, words and coefficients ask and promise.
use Rattle.std.specs.Prelude.{cond, List, ◌≡◌, ℕ, ◌+◌, ◌-◌, ◌*◌, ◌/◌, ◌%◌, ◌≤◌, ◌<◌, eqb, ℤ, pos, nat_abs, ◌+ℤ◌, ◌-ℤ◌, length}
use Rattle.words.specs.Words.{Samples, word, Written, TwoPut}
use Rattle.lengths.specs.Block.{largest_sum}
use Rattle.ffct.specs.Transforms.{cosine_beyond, sine_beyond}
use Rattle.counts.specs.declared.tally.Tally.{Tally}
use Rattle.counts.specs.Tally.{Summed, HasRoom}

-- the words from a place on
abbrev pub words_from : List ℤ → ℕ → Samples
words_from w at k = word w (at + k)

-- a block of n samples in pairs: sample i at 2 i, and its mirror image, sample n - 1 - i, at 2 i + 1 (what `paired` of the crate
-- transforms reads, with the stride 1)
unfoldable pub in_pairs : ℕ → Samples → Samples
in_pairs n x p = cond (eqb (p % 2) 0) (x (p / 2)) (x (n - 1 - p / 2))

-- two words x and y: their sum put at place i of a buffer, and their difference at place j
pub record SumReady (x y : ℤ) (i j : ℕ) (out : List ℤ) (spent : Tally) : Type 0 where
  pub fits : (i < length out) × (j < length out)
  pub x_small : nat_abs x ≤ largest_sum + 128
  pub y_small : nat_abs y ≤ largest_sum + 128
  pub apart : i ≡ j → ⊥
  pub room : HasRoom 0 2 spent

pub record SumPut (x y : ℤ) (i j : ℕ) (before after : List ℤ) (spent total : Tally) : Type 0 where
  pub both : TwoPut i j (x +ℤ y) (x -ℤ y) before after
  pub tallied : Summed 2 spent total

-- ---- the DFTs of two blocks a and b of n samples, n/2 + 1 words each, one behind another: the cosine-DFT of a, its sine-DFT, the
-- cosine-DFT of b, its sine-DFT
abbrev pub cosine_of_a : ℕ → List ℤ → ℕ → ℤ
cosine_of_a n dfts = word dfts

abbrev pub sine_of_a : ℕ → List ℤ → ℕ → ℤ
sine_of_a n dfts = words_from dfts (n / 2 + 1)

abbrev pub cosine_of_b : ℕ → List ℤ → ℕ → ℤ
cosine_of_b n dfts = words_from dfts (2 * (n / 2 + 1))

abbrev pub sine_of_b : ℕ → List ℤ → ℕ → ℤ
sine_of_b n dfts = words_from dfts (3 * (n / 2 + 1))

-- a cosine-DFT and a sine-DFT that may be joined: they are small, and the sine-DFT is zero at 0 and n/2
pub record Joinable (n : ℕ) (C S : ℕ → ℤ) : Type 0 where
  pub first : S 0 ≡ pos 0
  pub half : S (n / 2) ≡ pos 0
  pub cosine_small : (k : ℕ) → k < n / 2 + 1 → nat_abs (C k) ≤ largest_sum + 128
  pub sine_small : (k : ℕ) → k < n / 2 + 1 → nat_abs (S k) ≤ largest_sum + 128

pub record PartsReady (n : ℕ) (dfts real imaginary : List ℤ) (spent : Tally) : Type 0 where
  pub some : 1 ≤ n
  pub whole : (n ≡ 1 → ⊥) → 2 * (n / 2) ≡ n
  pub fits : 4 * (n / 2 + 1) ≤ length dfts
  pub real_fits : n ≤ length real
  pub imaginary_fits : n ≤ length imaginary
  pub of_real : Joinable n (cosine_of_a n dfts) (sine_of_b n dfts)
  pub of_imaginary : Joinable n (cosine_of_b n dfts) (sine_of_a n dfts)
  pub room : HasRoom 0 (2 * (n - 2)) spent

-- "real(k) = C_a(k) + S_b(k), imaginary(k) = C_b(k) − S_a(k), with (9), (10) above N/2"
pub record PartsPut (n : ℕ) (dfts real imaginary real' imaginary' : List ℤ) (spent total : Tally) : Type 0 where
  pub real_words : Written 0 n (λ k. cosine_beyond n (cosine_of_a n dfts) k +ℤ sine_beyond n (sine_of_b n dfts) k) real real'
  pub imaginary_words : Written 0 n (λ k. cosine_beyond n (cosine_of_b n dfts) k -ℤ sine_beyond n (sine_of_a n dfts) k) imaginary imaginary'
  pub tallied : Summed (2 * (n - 2)) spent total
