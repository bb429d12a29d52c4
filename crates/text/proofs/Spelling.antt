-- The digits of a number (`number` and `decimal` of specs/Decimal): those that `io::decimal` writes, the sign, how wide numbers are,
-- and that a number is read back from its digits. Assumes nothing.
use mathlib.Core.Path.{◌≡◌, refl, ap, ap₂}
use mathlib.Core.Bool.{true, false, true≢false}
use mathlib.Core.List.Memᴰ
use mathlib.Core.List.{List, [], ◌∷◌, ◌++◌, Memᴰ}
use mathlib.Core.Logic.{⊎_elim}
use Prim.Native.Nat.{ℕ, zero, suc, ◌+◌, ◌-◌, ◌*◌, ◌/◌, ◌%◌, ◌^◌, ◌≤◌, ◌<◌}
use native.Mathlib.Omega.{arith}
use native.Mathlib.Nat.{pow-suc, one-le-pow, pow-le-pow_right}
use borrow.Author.Tests.{lt-ltb, le-ltb, ltb-true}
use lib.Dec.{lit<}
use lib.IntN.{ℤ, pos, negsuc, nat_abs}
use lib.ListN.{length, get_or, length-append}
use lib.Signed.{lt_z}
use mir.Syntax.{w32}
use mir.Val.{SFits}
use Rattle.whole.proofs.Cases.{le_or_lt}
use Rattle.io.specs.Digits.{last_digits, hex_digit_ascii, IsDigitCount}
use Rattle.text.specs.Decimal.{digit, spelled, number, decimal, read_on, value, InDecimal}

-- ---- the digits of a number below 10, and of a larger one

spelled_short : (f n : ℕ) → n < 10 → spelled f n ≡ digit n ∷ []
unfolding spelled
spelled_short zero n h = refl
spelled_short (suc f) n h = simp (lt-ltb n 10 h)

spelled_long : (f n : ℕ) → 10 ≤ n → spelled (suc f) n ≡ spelled f (n / 10) ++ (digit (n % 10) ∷ [])
unfolding spelled
spelled_long f n h = simp (le-ltb n 10 h)

-- ---- what `io::decimal` writes, the fewest digits that hold the number

glyph_digit : (d n : ℕ) → d < 10 → d ≡ n → hex_digit_ascii d ∷ [] ≡ digit n ∷ []
glyph_digit d n h e = simp lt-ltb (ap (λ (x : ℕ). digit x ∷ []) e)

digits_spelled : (k f n : ℕ) → k ≤ f → n < 10 ^ suc k → (0 < k → 10 ^ k ≤ n) → last_digits 10 (suc k) n ≡ spelled f n
digits_spelled zero f n h a b = rw (spelled_short f n a) (glyph_digit (n % 10) n (omega arith) (omega arith))
digits_spelled (suc k) zero n h a b = absurd (omega arith)
digits_spelled (suc k) (suc f) n h a b =
    let u = rw pow-suc at a in
    let l : 10 ^ k * 10 ≤ n = rw pow-suc at (b (omega arith)) in
    let z : 10 ≤ n = omega (arith, one-le-pow k 10 (omega arith)) in
    rw (spelled_long f n z)
    (ap₂ ◌++◌
    (digits_spelled k f (n / 10) (omega arith) (omega arith) (λ _. omega arith))
    (glyph_digit (n % 10) (n % 10) (omega arith) refl))

-- a number of 64 bits has at most 20 digits
at_most_twenty : (k n : ℕ) → n < 2 ^ 64 → (1 < k → 10 ^ (k - 1) ≤ n) → k ≤ 20
at_most_twenty k n h w =
    ⊎_elim
    (λ l. absurd (omega (arith, w (omega arith), pow-le-pow_right {n = 10} (lit< tt) {i = 20} {j = k - 1} (omega arith))))
    (λ l. omega arith)
    (le_or_lt 21 k)

pub digits_number : (k n : ℕ) → n < 2 ^ 64 → IsDigitCount 10 1 n k → last_digits 10 k n ≡ number n
unfolding number
digits_number zero n h w = absurd (omega (arith, w.0))
digits_number (suc k) n h w =
    let e : suc k - 1 ≡ k = omega arith in
    digits_spelled k 19 n (omega (arith, at_most_twenty (suc k) n h w.2)) w.1 (λ l. rw e at (w.2 (omega arith)))

-- ---- the sign

pub decimal_negative : (x : ℤ) → lt_z x (pos 0) ≡ true → decimal x ≡ 45 ∷ number (nat_abs x)
unfolding decimal
decimal_negative (pos n) h = absurd (omega (arith, ltb-true n 0 h))
decimal_negative (negsuc n) h = refl

pub decimal_natural : (x : ℤ) → lt_z x (pos 0) ≡ false → decimal x ≡ number (nat_abs x)
unfolding decimal
decimal_natural (pos n) h = refl
decimal_natural (negsuc n) h = absurd (true≢false h)

-- ---- how wide numbers are

spelled_length : (f d n : ℕ) → n < 10 ^ suc d → length (spelled f n) ≤ suc d
spelled_length zero d n h = unfold spelled in omega arith
spelled_length (suc f) zero n h = rw (spelled_short (suc f) n h) (omega arith)
spelled_length (suc f) (suc d) n h =
    let front : length (spelled f (n / 10)) ≤ suc d = spelled_length f d (n / 10) (omega (arith, rw pow-suc at h)) in
    ⊎_elim
    (λ l. rw (spelled_long f n l) (omega (arith, length-append (spelled f (n / 10)) (digit (n % 10) ∷ []))))
    (λ l. rw (spelled_short (suc f) n l) (omega arith))
    (le_or_lt 10 n)

pub number_length : (d n : ℕ) → n < 10 ^ suc d → length (number n) ≤ suc d
unfolding number
number_length d n h = spelled_length 19 d n h

pub decimal_length : (x : ℤ) → SFits w32 x → length (decimal x) ≤ 11
unfolding decimal
decimal_length (pos n) f = omega (arith, number_length 9 n (omega (arith, f.sfits)))
decimal_length (negsuc n) f = omega (arith, number_length 9 (suc n) (omega (arith, f.sfits)))

-- ---- a number is read back from its digits

read_last : (v : ℕ) (text : List ℕ) (c : ℕ) → read_on v (text ++ (c ∷ [])) ≡ 10 * read_on v text + (c - 48)
read_last v [] c = refl
read_last v (b ∷ text) c = read_last (10 * v + (b - 48)) text c

spelled_value : (f n : ℕ) → value (spelled f n) ≡ n
spelled_value zero n = unfold spelled in omega arith
spelled_value (suc f) n =
    ⊎_elim
    (λ l. rw (spelled_long f n l) (omega (arith, read_last 0 (spelled f (n / 10)) (digit (n % 10)), spelled_value f (n / 10))))
    (λ l. rw (spelled_short (suc f) n l) (omega arith))
    (le_or_lt 10 n)

pub number_value : (n : ℕ) → value (number n) ≡ n
unfolding number
number_value n = spelled_value 19 n

-- every byte is a digit; the first one is 0 only where the number is

spelled_digits : (f n c : ℕ) → n < 10 ^ suc f → Memᴰ c (spelled f n) → (48 ≤ c) × (c ≤ 57)
spelled_digits zero n c h m = let e : c ≡ digit n = Memᴰ.eq_of_singleton (rw (spelled_short zero n h) at m) in omega arith
spelled_digits (suc f) n c h m =
    ⊎_elim
    (λ l.
    ⊎_elim
    (λ i. spelled_digits f (n / 10) c (omega (arith, rw pow-suc at h)) i)
    (λ i. let e : c ≡ digit (n % 10) = Memᴰ.eq_of_singleton i in omega arith)
    (Memᴰ.append_cases (spelled f (n / 10)) (rw (spelled_long f n l) at m)))
    (λ l. let e : c ≡ digit n = Memᴰ.eq_of_singleton (rw (spelled_short (suc f) n l) at m) in omega arith)
    (le_or_lt 10 n)

pub number_digits : (n c : ℕ) → n < 10 ^ 20 → Memᴰ c (number n) → (48 ≤ c) × (c ≤ 57)
unfolding number
number_digits n c h m = spelled_digits 19 n c h m

front : (text rest : List ℕ) → 48 < get_or text 0 0 → 48 < get_or (text ++ rest) 0 0
front [] rest h = absurd (omega arith)
front (c ∷ text) rest h = h

spelled_first : (f n : ℕ) → 0 < n → 48 < get_or (spelled f n) 0 0
spelled_first zero n h = unfold spelled in omega arith
spelled_first (suc f) n h =
    ⊎_elim
    (λ l. rw (spelled_long f n l) (front (spelled f (n / 10)) _ (spelled_first f (n / 10) (omega arith))))
    (λ l. rw (spelled_short (suc f) n l) (omega arith))
    (le_or_lt 10 n)

pub number_first : (n : ℕ) → 0 < n → 48 < get_or (number n) 0 0
unfolding number
number_first n h = spelled_first 19 n h

pub in_decimal : InDecimal
in_decimal = record { reads_back = number_value; digits = number_digits; no_leading_zero = number_first }
