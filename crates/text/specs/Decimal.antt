-- Document 01, "The pair file": numbers "in decimal". A text is the list of its bytes; 48 is the digit 0, 45 the minus sign.
use Rattle.std.specs.Prelude.{cond, ◌≡◌, ℕ, zero, suc, ◌+◌, ◌-◌, ◌*◌, ◌/◌, ◌%◌, ◌^◌, ◌≤◌, ◌<◌, ltb, ℤ, pos, negsuc, get_or}
use mathlib.Core.List.{List, [], ◌∷◌, ◌++◌, Memᴰ}

-- what stands behind a number
abbrev pub space : List ℕ
space = 32 ∷ []

abbrev pub line_feed : List ℕ
line_feed = 10 ∷ []

abbrev pub digit : ℕ → ℕ
digit d = 48 + d

-- n, of at most k + 1 digits, without leading zeros: the digits of n / 10, then the last one
unfoldable pub spelled : ℕ → ℕ → List ℕ
spelled zero n = digit n ∷ []
spelled (suc k) n = cond (ltb n 10) (digit n ∷ []) (spelled k (n / 10) ++ (digit (n % 10) ∷ []))

-- a number of up to twenty digits, which is 19 + 1: the largest of 64 bits, 18,446,744,073,709,551,615, has so many
unfoldable pub number : ℕ → List ℕ
number n = spelled 19 n

-- a negative number begins with the minus sign
unfoldable pub decimal : ℤ → List ℕ
decimal (pos n) = number n
decimal (negsuc n) = 45 ∷ number (suc n)

-- ---- proved in proofs/Spelling: the digits read back as the number; each is a digit; the first is 0 only where the number is

-- the number that digits spell, with the value v of those in front of them
abbrev pub read_on : ℕ → List ℕ → ℕ
read_on v [] = v
read_on v (c ∷ text) = read_on (10 * v + (c - 48)) text

abbrev pub value : List ℕ → ℕ
value text = read_on 0 text

pub record InDecimal : Type 0 where
  pub reads_back : (n : ℕ) → value (number n) ≡ n
  pub digits : (n c : ℕ) → n < 10 ^ 20 → Memᴰ c (number n) → (48 ≤ c) × (c ≤ 57)
  pub no_leading_zero : (n : ℕ) → 0 < n → 48 < get_or (number n) 0 0
