-- What the functions of the rotation (18), (19) ask and promise: values, counts and rests together, by the definitions of the crate ffct.
-- `spent` is the tally that a function is handed, `total` the one that it gives back.
use Rattle.std.specs.Prelude.{true, List, ◌≡◌, ℕ, ◌+◌, ◌-◌, ◌*◌, ◌/◌, ◌≤◌, ◌<◌, max, ℤ, nat_abs, ◌+ℤ◌, ◌-ℤ◌, ◌*ℤ◌, length}
use Rattle.whole.specs.Round.{round, rest_size}
use Rattle.words.specs.Words.{word, Written, TwoPut}
use Rattle.circle.specs.Circle.{T}
use Rattle.lengths.specs.Block.{is_length, largest_sum}
use Rattle.ffct.specs.Transforms.{rotated, rotation_rest}
use Rattle.counts.specs.declared.tally.Tally.{Tally}
use Rattle.counts.specs.Tally.{Tallied, HasRoom}

-- one pair by (20), from the cosine-DFT C and the sine-DFT S
pub record PairRotated (c s C S first second : ℤ) (made : Tally) : Type 0 where
  pub low : first ≡ round (c *ℤ C -ℤ s *ℤ S)
  pub high : second ≡ round (s *ℤ C +ℤ c *ℤ S)
  pub three_products : made.products ≡ 3
  pub three_sums : made.sums ≡ 3
  pub larger_rest : made.largest_rest ≡ max (rest_size (c *ℤ C -ℤ s *ℤ S)) (rest_size (s *ℤ C +ℤ c *ℤ S))

-- DCT(n/2), from the cosine-DFT there
pub record MiddleRotated (C value : ℤ) (made : Tally) : Type 0 where
  pub middle : value ≡ round (T 512 *ℤ C)
  pub one_product : made.products ≡ 1
  pub no_sum : made.sums ≡ 0
  pub size_of_rest : made.largest_rest ≡ rest_size (T 512 *ℤ C)

-- ---- on words: the cosine-DFT C stands at n .. n + n/2, the sine-DFT S behind it; the DCT goes to the front
abbrev pub cosine_at : ℕ → List ℤ → ℕ → ℤ
cosine_at n words k = word words (n + k)

abbrev pub sine_at : ℕ → List ℤ → ℕ → ℤ
sine_at n words k = word words (n + n / 2 + 1 + k)

-- DCT(k) and DCT(n − k) before the rounding; j is the place of c in the table
abbrev pub low_at : ℕ → ℕ → List ℤ → ℕ → ℤ
low_at j n words k = T j *ℤ cosine_at n words k -ℤ T (1024 - j) *ℤ sine_at n words k

abbrev pub high_at : ℕ → ℕ → List ℤ → ℕ → ℤ
high_at j n words k = T (1024 - j) *ℤ cosine_at n words k +ℤ T j *ℤ sine_at n words k

-- one pair, k and n − k, by (20)
pub record PairReady (n k : ℕ) (words : List ℤ) (spent : Tally) : Type 0 where
  pub some : 1 ≤ k
  pub below : k < n / 2
  pub fits : n + (n / 2 + 1) + (n / 2 + 1) ≤ length words
  pub cosine_small : nat_abs (cosine_at n words k) ≤ largest_sum + 128
  pub sine_small : nat_abs (sine_at n words k) ≤ largest_sum + 128
  pub room : HasRoom 3 3 spent

pub record PairPut (j n k : ℕ) (before after : List ℤ) (spent total : Tally) : Type 0 where
  pub both : TwoPut k (n - k) (round (low_at j n before k)) (round (high_at j n before k)) before after
  pub tallied : Tallied 3 3 (max (rest_size (low_at j n before k)) (rest_size (high_at j n before k))) spent total

-- the coefficients 0 and n/2, which belong to no pair
pub record SingleReady (n : ℕ) (words : List ℤ) (spent : Tally) : Type 0 where
  pub some : 2 ≤ n
  pub fits : n + (n / 2 + 1) + (n / 2 + 1) ≤ length words
  pub cosine_small : nat_abs (cosine_at n words (n / 2)) ≤ largest_sum + 128
  pub room : HasRoom 1 0 spent

pub record SinglePut (n : ℕ) (before after : List ℤ) (spent total : Tally) : Type 0 where
  pub both : TwoPut 0 (n / 2) (cosine_at n before 0) (round (T 512 *ℤ cosine_at n before (n / 2))) before after
  pub tallied : Tallied 1 0 (rest_size (T 512 *ℤ cosine_at n before (n / 2))) spent total

-- all of them
pub record RotationReady (n : ℕ) (words : List ℤ) (spent : Tally) : Type 0 where
  pub length_ok : is_length n ≡ true
  pub some : 2 ≤ n
  pub fits : n + (n / 2 + 1) + (n / 2 + 1) ≤ length words
  pub cosine_small : (k : ℕ) → k < n / 2 + 1 → nat_abs (cosine_at n words k) ≤ largest_sum + 128
  pub sine_small : (k : ℕ) → k < n / 2 + 1 → nat_abs (sine_at n words k) ≤ largest_sum + 128
  pub room : HasRoom (3 * (n / 2 - 1) + 1) (3 * (n / 2 - 1)) spent

pub record Rotated (n : ℕ) (before after : List ℤ) (spent total : Tally) : Type 0 where
  pub words : Written 0 n (rotated n (cosine_at n before) (sine_at n before)) before after
  pub tallied : Tallied (3 * (n / 2 - 1) + 1) (3 * (n / 2 - 1)) (rotation_rest n (cosine_at n before) (sine_at n before)) spent total
