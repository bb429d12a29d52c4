-- What the functions of this crate ask and promise: each step its values, its counts and its largest rest together, by the definitions of
-- the crate ffct.
-- `spent` is the tally that a function is handed, `total` the one that it gives back.
use Rattle.std.specs.Prelude.{true, List, ◌≡◌, ℕ, ◌+◌, ◌-◌, ◌*◌, ◌/◌, ◌≤◌, ◌<◌, min, ℤ, nat_abs, ◌+ℤ◌, ◌-ℤ◌, length}
use Rattle.words.specs.Words.{Samples, word, Written}
use Rattle.lengths.specs.Block.{is_length, level, largest_sum}
use Rattle.ffct.specs.Transforms.{Transform, dct, cosine_beyond, sine_beyond, dct_beyond, apart}
use Rattle.counts.specs.declared.tally.Tally.{Tally}
use Rattle.counts.specs.Tally.{TalliedAs, Summed, HasRoom}
use Rattle.transforms.specs.Pairs.{paired}

-- ---- the transforms

-- a block of n samples, n one of the eleven lengths, and n times the size of each sample at most 1,024 times 1,000,000: that holds of an
-- accepted block and of the samples of every step
pub record Ready (n : ℕ) (x : Samples) : Type 0 where
  pub length_ok : is_length n ≡ true
  pub samples : (i : ℕ) → i < n → n * nat_abs (x i) ≤ largest_sum

-- what a transform t leaves: its first m coefficients from place `at` on, its counts and its largest rest; the words below `at` are as
-- before. What stands in the words behind the coefficients is the program's choice. The length stays
pub record Gives (t : Transform) (at m : ℕ) (before after : List ℤ) (spent total : Tally) : Type 0 where
  pub coefficients : (k : ℕ) → k < m → word after (at + k) ≡ t.at k
  pub front : (k : ℕ) → k < at → word after k ≡ word before k
  pub tallied : TalliedAs t spent total
  pub len : length after ≡ length before

-- the words that a DCT of n samples works in: the samples, which its coefficients replace, and its two DFTs, 3 n words in all; for one
-- sample that one word
abbrev pub dct_room : ℕ → ℕ
dct_room n = min (3 * n) (5 * n - 4)

-- the words from its result on that a cosine- or sine-DFT of n samples works in: its n/2 + 1 coefficients, and the DCT of n/4 behind them
abbrev pub dft_room : ℕ → ℕ
dft_room n = n / 2 + 1 + dct_room (n / 4)

-- a cosine- or sine-DFT: n samples in pairs at the front, with the stride s, and a result at `at`, behind them
pub record DftReady (transform : ℕ → Samples → Transform) (n s at : ℕ) (words : List ℤ) (spent : Tally) : Type 0 where
  pub ready : Ready n (paired n s (word words))
  pub stride : 1 ≤ s
  pub behind : s * n ≤ at
  pub fits : at + dft_room n ≤ length words
  pub room :
      let t = transform (level n) (paired n s (word words)) in
      HasRoom t.products t.sums spent

abbrev pub DftDone : (ℕ → Samples → Transform) → ℕ → ℕ → ℕ → List ℤ → List ℤ → Tally → Tally → Type 0
DftDone transform n s at before after spent total =
    Gives (transform (level n) (paired n s (word before))) at (n / 2 + 1) before after spent total

-- a DCT: n samples at the front, and its coefficients in their place
pub record DctReady (n : ℕ) (words : List ℤ) (spent : Tally) : Type 0 where
  pub ready : Ready n (word words)
  pub fits : dct_room n ≤ length words
  pub room :
      let t = dct (level n) (word words) in
      HasRoom t.products t.sums spent

abbrev pub DctDone : ℕ → List ℤ → List ℤ → Tally → Tally → Type 0
DctDone n before after spent total = Gives (dct (level n) (word before)) 0 n before after spent total

-- ---- the folds of (12) and (15): of the n samples in pairs at the front, put at b behind them
pub record FoldReady (n s b : ℕ) (words : List ℤ) (spent : Tally) : Type 0 where
  pub quarters : 4 * (n / 4) ≡ n
  pub stride : 1 ≤ s
  pub behind : s * n ≤ b
  pub fits : b + n / 4 ≤ length words
  pub samples : (i : ℕ) → i < n → nat_abs (paired n s (word words) i) ≤ largest_sum
  pub room : HasRoom 0 (n / 4) spent

pub record Folded (fold : ℕ → Samples → Samples) (n s b : ℕ) (before after : List ℤ) (spent total : Tally) : Type 0 where
  pub words : Written b (n / 4) (fold n (paired n s (word before))) before after
  pub tallied : Summed (n / 4) spent total

-- the word at x less the word at y, put at a place behind them
pub record DifferenceReady (x y place : ℕ) (words : List ℤ) (spent : Tally) : Type 0 where
  pub x_below : x < place
  pub y_below : y < place
  pub fits : place < length words
  pub x_small : nat_abs (word words x) ≤ largest_sum
  pub y_small : nat_abs (word words y) ≤ largest_sum
  pub room : HasRoom 0 1 spent

pub record DifferencePut (x y place : ℕ) (before after : List ℤ) (spent total : Tally) : Type 0 where
  pub words : Written place 1 (λ k. word before x -ℤ word before y) before after
  pub tallied : Summed 1 spent total

-- ---- the joins of (12) and (15): the coefficients E of the even samples stand at `at` .. at + n/4, those of the DCT, D, from at + n/2 +
-- 1 on; what they make stands at `at` .. at + n/2
abbrev pub even_at : ℕ → List ℤ → ℕ → ℤ
even_at at words k = word words (at + k)

abbrev pub odd_at : ℕ → ℕ → List ℤ → ℕ → ℤ
odd_at n at words k = word words (at + n / 2 + 1 + k)

-- (12)
abbrev pub cosine_join : ℕ → (ℕ → ℤ) → (ℕ → ℤ) → ℕ → ℤ
cosine_join n E D k = cosine_beyond (n / 2) E k +ℤ dct_beyond (n / 4) D k

-- (15)
abbrev pub sine_join : ℕ → (ℕ → ℤ) → (ℕ → ℤ) → ℕ → ℤ
sine_join n E D k = sine_beyond (n / 2) E k +ℤ dct_beyond (n / 4) D (apart (n / 4) k)

-- `sums` of them are made
pub record JoinReady (sums n at : ℕ) (words : List ℤ) (spent : Tally) : Type 0 where
  pub quarters : 4 * (n / 4) ≡ n
  pub some : 4 ≤ n
  pub fits : at + dft_room n ≤ length words
  pub even_small : (k : ℕ) → k < n / 4 + 1 → nat_abs (even_at at words k) ≤ 2 * largest_sum
  pub odd_small : (k : ℕ) → k < n / 4 → nat_abs (odd_at n at words k) ≤ 2 * largest_sum
  pub room : HasRoom 0 sums spent

pub record Joined (join : ℕ → (ℕ → ℤ) → (ℕ → ℤ) → ℕ → ℤ) (sums n at : ℕ) (before after : List ℤ) (spent total : Tally) : Type 0 where
  pub words : Written at (n / 2 + 1) (join n (even_at at before) (odd_at n at before)) before after
  pub tallied : Summed sums spent total
