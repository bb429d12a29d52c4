-- What is proved of the circle, as statements: each is proved for all places in proofs/.
use Rattle.std.specs.Prelude.{◌≡◌, ℕ, suc, ◌+◌, ◌-◌, ◌*◌, ◌^◌, ◌≤◌, ◌<◌, pos, neg_ℤ, nat_abs, ◌+ℤ◌, ◌-ℤ◌, ◌*ℤ◌, ◌<ℤ◌}
use Rattle.circle.specs.Circle.{B, K, T, sine_at}

-- the whole-number root: r² ≤ v < (r + 1)²
pub record IsRoot (v r : ℕ) : Type 0 where
  pub below : r * r ≤ v
  pub above : v < (r + 1) * (r + 1)

-- K at the place p: its symmetries and its size
pub record AtPlace (p : ℕ) : Type 0 where
  pub period : K (p + 4096) ≡ K p
  pub half_turn : K (p + 2048) ≡ neg_ℤ (K p)
  pub supplement : p ≤ 2048 → K (2048 - p) ≡ neg_ℤ (K p)
  pub mirrored : (m : ℕ) → p ≤ 4096 * m → K (4096 * m - p) ≡ K p
  pub size : nat_abs (K p) ≤ B

-- K and T where document 01 gives them in digits, and K at the odd multiples of 1,024
pub record KnownPlaces : Type 0 where
  pub start : K 0 ≡ pos (2 ^ 80)
  pub zero : (m : ℕ) → K (2048 * m + 1024) ≡ pos 0
  pub first : T 0 ≡ pos 1073741824
  pub middle : T 512 ≡ pos 759250125
  pub last : T 1024 ≡ pos 0

-- the stored quarter wave at j
pub record AtEntry (j : ℕ) : Type 0 where
  pub falls : j < 1024 → T (suc j) <ℤ T j
  pub near : nat_abs (T j *ℤ pos (2 ^ 50) -ℤ K j) ≤ 2 ^ 49

-- the addition law for the places p and q, within 2^40 units of B
abbrev pub addition_error : ℕ
addition_error = 2 ^ 40

pub record Addition (p q : ℕ) : Type 0 where
  pub cosine : nat_abs (K p *ℤ K q -ℤ sine_at p *ℤ sine_at q -ℤ pos B *ℤ K (p + q)) ≤ addition_error * B
  pub sine : nat_abs (sine_at p *ℤ K q +ℤ K p *ℤ sine_at q -ℤ pos B *ℤ sine_at (p + q)) ≤ addition_error * B
