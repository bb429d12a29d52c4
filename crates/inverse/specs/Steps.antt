-- What the functions of the inverse DCT ask and promise of the numbers that they work on.
use Rattle.std.specs.Prelude.{true, List, ◌≡◌, ℕ, ◌+◌, ◌-◌, ◌*◌, ◌/◌, ◌^◌, ◌≤◌, ◌<◌, ℤ, pos, nat_abs, ◌+ℤ◌, ◌-ℤ◌, ◌*ℤ◌, length}
use Rattle.std.specs.Int.{w32}
use Rattle.std.proofs.Common.{SFits}
use Rattle.whole.specs.Round.{nearest}
use Rattle.whole.specs.Sum.{sum as total}
use Rattle.words.specs.Words.{word}
use Rattle.lengths.specs.Block.{is_length}
use Rattle.inverse.specs.declared.sum.Sum.{Sum}
use Rattle.inverse.specs.Inverse.{T°, inverse_dct, largest_coefficient}

-- ---- exact sums: what two words hold
abbrev pub held : Sum → ℤ
held sum = sum.high *ℤ pos (2 ^ 30) +ℤ sum.low

-- both words are at most m · 2^30 in size, as after m products
pub record Small (m : ℕ) (sum : Sum) : Type 0 where
  pub high_ok : nat_abs sum.high ≤ m * 2 ^ 30
  pub low_ok : nat_abs sum.low ≤ m * 2 ^ 30

-- a product x y added to a sum of at most 512
pub record AddReady (sum : Sum) (x y : ℤ) : Type 0 where
  pub sum_ok : Small 512 sum
  pub x_ok : nat_abs x ≤ 2 ^ 30
  pub y_ok : nat_abs y ≤ 2 ^ 30

pub record Added (sum : Sum) (x y : ℤ) (sum' : Sum) : Type 0 where
  pub is : held sum' ≡ held sum +ℤ x *ℤ y
  pub grows : (m : ℕ) → Small m sum → Small (m + 1) sum'

-- two such sums added, or subtracted
pub record Joined (op : ℤ → ℤ → ℤ) (a b sum : Sum) : Type 0 where
  pub is : held sum ≡ op (held a) (held b)
  pub size : Small 1024 sum

-- ---- the m products of the coefficients first, first + 2, .. with T° at their places, turn being the place of coefficient 1
abbrev pub product : List ℤ → (first turn : ℕ) → ℕ → ℤ
product coefficients first turn i = let k = first + 2 * i in word coefficients k *ℤ T° (turn * k)

pub record SumReady (m first turn : ℕ) (coefficients : List ℤ) : Type 0 where
  pub some : m ≤ 512
  pub even_or_odd : first ≤ 1
  pub half_turn : turn < 2048
  pub stored : 2 * m ≤ length coefficients
  pub small : (k : ℕ) → k < 2 * m → nat_abs (word coefficients k) ≤ 2 ^ 30

pub record SumMade (m first turn : ℕ) (coefficients : List ℤ) (sum : Sum) : Type 0 where
  pub is : held sum ≡ total m (product coefficients first turn)
  pub size : Small m sum

-- ---- a value: (2 v − c · 2^30) / (N · 2^30) rounded to the nearest, c being coefficient 0 and v the sum with all coefficients once
abbrev pub value_of : (v c : ℤ) → ℕ → ℤ
value_of v c N = nearest (pos 2 *ℤ v -ℤ c *ℤ pos (2 ^ 30)) (N * 2 ^ 30)

pub record ValueReady (sum : Sum) (c : ℤ) (N : ℕ) : Type 0 where
  pub length_ok : is_length N ≡ true
  pub two : 2 ≤ N
  pub size : Small 1024 sum
  pub c_ok : nat_abs c ≤ 2 ^ 30
  pub fits : SFits w32 (value_of (held sum) c N)

-- ---- an accepted block of coefficients
pub record Stored (N : ℕ) (coefficients : List ℤ) : Type 0 where
  pub length_ok : is_length N ≡ true
  pub enough : N ≤ length coefficients
  pub range : (k : ℕ) → k < N → nat_abs (word coefficients k) ≤ largest_coefficient N

-- the values of n and N − 1 − n, n in the first half
pub record TwoReady (N n : ℕ) (coefficients : List ℤ) : Type 0 where
  pub stored : Stored N coefficients
  pub front : n < N / 2

pub record TwoMade (N n : ℕ) (c : ℕ → ℤ) (near far : ℤ) : Type 0 where
  pub near_is : near ≡ inverse_dct N c n
  pub far_is : far ≡ inverse_dct N c (N - 1 - n)
