-- Whole numbers as differences of natural numbers, the way in which this repository proves equations and bounds over ℤ:
--     rw (parts a, parts b) (simp diff (omega near))
-- writes each variable as a difference, turns the whole expression into one difference, and leaves omega an equation or an
-- order of natural numbers in which products of the variables' parts are unknowns (`near` is in Size).
-- Assumes nothing.
use mathlib.Core.Path.{◌≡◌, refl, ◌∙◌, ap}
use mathlib.Core.Bool.{Bool, true, false, not, cond}
use Prim.Native.Nat.{ℕ, zero, suc, ◌+◌, ◌*◌, ◌-◌, ◌<◌, ◌≤◌}
use native.Mathlib.Omega.{arith}
use lib.Dec.{T, ltb, ltb→lt, nltb→le}
use lib.IntN.{ℤ, pos, negsuc, neg_ℤ, sub_ℕ, ◌+ℤ◌, ◌*ℤ◌}

infixl 6 ◌⊖◌
-- p - n as a whole number: shut, so that it never computes where it stands
pub ◌⊖◌ : ℕ → ℕ → ℤ
p ⊖ n = sub_ℕ p n

-- the two parts of a whole number, one of which is 0: z is plus z - minus z
unfoldable pub plus : ℤ → ℕ
plus (pos n) = n
plus (negsuc n) = 0

unfoldable pub minus : ℤ → ℕ
minus (pos n) = 0
minus (negsuc n) = suc n

cond_cases : (c : Bool) (x y : ℤ) (Q : ℤ → Type 0) → (T c → Q x) → (T (not c) → Q y) → Q (cond c x y)
cond_cases true x y Q f g = f tt
cond_cases false x y Q f g = g tt

sub_cases : (a b : ℕ) (Q : ℤ → Type 0) → (a < b → Q (negsuc (b - suc a))) → (b ≤ a → Q (pos (a - b))) → Q (sub_ℕ a b)
sub_cases a b Q f g = cond_cases (ltb a b) (negsuc (b - suc a)) (pos (a - b)) Q (λ t. f (ltb→lt a b t)) (λ t. g (nltb→le a b t))

-- the parts of a difference: it is p - n, if not in lowest terms
pub ⊖-parts : (p n : ℕ) → plus (p ⊖ n) + n ≡ p + minus (p ⊖ n)
unfolding ◌⊖◌ plus minus
⊖-parts p n = sub_cases p n (λ z. plus z + n ≡ p + minus z) (λ h. omega arith) (λ h. omega arith)

-- a whole number is determined by its parts up to a common summand
cross : (x y : ℤ) → plus x + minus y ≡ plus y + minus x → x ≡ y
unfolding plus minus
cross (pos a) (pos b) h = ap pos (omega arith)
cross (pos a) (negsuc b) h = absurd (omega arith)
cross (negsuc a) (pos b) h = absurd (omega arith)
cross (negsuc a) (negsuc b) h = ap negsuc (omega arith)

pub parts : (z : ℤ) → z ≡ plus z ⊖ minus z
parts z = cross z (plus z ⊖ minus z) (omega (arith, ⊖-parts (plus z) (minus z)))

-- an equation of differences: as a goal, and as a hypothesis
pub ⊖-eq : (p n q m : ℕ) → p + m ≡ q + n → p ⊖ n ≡ q ⊖ m
⊖-eq p n q m h = cross (p ⊖ n) (q ⊖ m) (omega (arith, ⊖-parts p n, ⊖-parts q m))

pub ⊖-same : (p n q m : ℕ) → p ⊖ n ≡ q ⊖ m → p + m ≡ q + n
⊖-same p n q m e = omega (arith, ⊖-parts p n, ⊖-parts q m, ap plus e, ap minus e)

-- ---- the parts of a sum, of -a and of a product
plus_minus-+ : (a b : ℤ) → plus (a +ℤ b) + (minus a + minus b) ≡ plus a + plus b + minus (a +ℤ b)
unfolding plus minus
plus_minus-+ (pos a) (pos b) = omega arith
plus_minus-+ (pos a) (negsuc b) = sub_cases a (suc b) (λ z. plus z + (0 + suc b) ≡ a + 0 + minus z) (λ h. omega arith) (λ h. omega arith)
plus_minus-+ (negsuc a) (pos b) = sub_cases b (suc a) (λ z. plus z + (suc a + 0) ≡ 0 + b + minus z) (λ h. omega arith) (λ h. omega arith)
plus_minus-+ (negsuc a) (negsuc b) = omega arith

plus_neg : (a : ℤ) → plus (neg_ℤ a) ≡ minus a
unfolding plus minus
plus_neg (pos zero) = refl
plus_neg (pos (suc n)) = refl
plus_neg (negsuc n) = refl

minus_neg : (a : ℤ) → minus (neg_ℤ a) ≡ plus a
unfolding plus minus
minus_neg (pos zero) = refl
minus_neg (pos (suc n)) = refl
minus_neg (negsuc n) = refl

pub product_parts : (a b : ℤ) →
    (plus (a *ℤ b) ≡ plus a * plus b + minus a * minus b) × (minus (a *ℤ b) ≡ plus a * minus b + minus a * plus b)
unfolding plus minus
product_parts (pos a) (pos b) = omega arith
product_parts (pos a) (negsuc b) = (plus_neg (pos (a * suc b)) ∙ omega arith, minus_neg (pos (a * suc b)) ∙ omega arith)
product_parts (negsuc a) (pos b) = (plus_neg (pos (suc a * b)) ∙ omega arith, minus_neg (pos (suc a * b)) ∙ omega arith)
product_parts (negsuc a) (negsuc b) = omega arith

-- ---- the operations at differences
pub ⊖-+ : (p n q m : ℕ) → (p ⊖ n) +ℤ (q ⊖ m) ≡ (p + q) ⊖ (n + m)
⊖-+ p n q m = cross _ _ (omega (arith, ⊖-parts p n, ⊖-parts q m, ⊖-parts (p + q) (n + m), plus_minus-+ (p ⊖ n) (q ⊖ m)))

pub ⊖-neg : (p n : ℕ) → neg_ℤ (p ⊖ n) ≡ n ⊖ p
⊖-neg p n = cross _ _ (omega (arith, ⊖-parts p n, ⊖-parts n p, plus_neg (p ⊖ n), minus_neg (p ⊖ n)))

multiplied_out : (a b c d p n q m : ℕ) → a + n ≡ p + b → c + m ≡ q + d → a * c + b * d + (p * m + n * q) ≡ p * q + n * m + (a * d + b * c)
multiplied_out a b c d p n q m h k =
    omega (arith, ap (λ t. t * c) h, ap (λ t. t * d) h, ap (λ t. p * t) k, ap (λ t. n * t) k)

pub ⊖-* : (p n q m : ℕ) → (p ⊖ n) *ℤ (q ⊖ m) ≡ (p * q + n * m) ⊖ (p * m + n * q)
⊖-* p n q m =
    let c = multiplied_out _ _ _ _ p n q m (⊖-parts p n) (⊖-parts q m) in
    let x = product_parts (p ⊖ n) (q ⊖ m) in
    cross _ _ (omega (arith, ⊖-parts (p * q + n * m) (p * m + n * q)))

-- a natural number as a whole number: shut, so that `int n +ℤ x` does not compute half way, as `pos n +ℤ x` does
unfoldable pub int : ℕ → ℤ
int n = pos n

pub ⊖-int : (n : ℕ) → int n ≡ n ⊖ 0
unfolding int
⊖-int n = cross _ _ (unfold plus minus in omega (arith, ⊖-parts n 0))

pub ⊖-negsuc : (n : ℕ) → negsuc n ≡ 0 ⊖ suc n
⊖-negsuc n = cross _ _ (unfold plus minus in omega (arith, ⊖-parts 0 (suc n)))

-- the rules that take an expression over differences to one difference
pub ruleset diff = (⊖-+, ⊖-neg, ⊖-*, ⊖-int)
