-- The eleven lengths and their levels, by a computed test of each of them, and of every number up to 1,024 for its binary digits.
-- Assumes nothing.
use mathlib.Core.Path.{◌≡◌, refl, sym, ap, ◌∙◌, subst}
use mathlib.Core.Logic.{◌⊎◌, inl, inr, ⊎_elim}
use mathlib.Core.List.{List, [], ◌∷◌}
use mathlib.Core.Bool.{Bool, true, false, not, cond, ◌||◌, false≢true}
use Prim.Native.Nat.{ℕ, zero, suc, ◌+◌, ◌*◌, ◌/◌, ◌%◌, ◌^◌, ◌≤◌, ◌<◌}
use native.Mathlib.Nat.{pow-succ'}
use native.Mathlib.Omega.{arith}
use lib.Count.{ones_in, ones, ones_step, count_trailing_zeros}
use lib.Dec.{T, eqb, leb, ltb, eqb→eq, leb→le}
use lib.ListN.{length}
use lib.Pow.{pow_pos, pow_mono}
use borrow.Author.Tests.{eqb-true, le-ltb}
use Rattle.whole.proofs.Cases.{both, both_left, both_right, below, below_at, le_or_lt}
use Rattle.lengths.specs.Block.{lengths, top_level, one_of, is_length, place_in, level}
use Rattle.lengths.proofs.Lengths.{len, pow_len, len_pos, per, len_per, quotient}

-- ---- a test of every number of a list, and what it says of one of them
every : (ℕ → Bool) → List ℕ → Bool
every p [] = true
every p (m ∷ ms) = both (p m) (every p ms)

either : (a b : Bool) → (a || b) ≡ true → (a ≡ true) ⊎ (b ≡ true)
either true b e = inl refl
either false b e = inr e

every_at : (p : ℕ → Bool) (N : ℕ) (ms : List ℕ) → T (every p ms) → one_of N ms ≡ true → T (p N)
unfolding every
every_at p N [] t e = absurd (false≢true e)
every_at p N (m ∷ ms) t e = ⊎_elim
    (λ h. subst (λ n. T (p n)) (sym (eqb-true N m h)) (both_left _ _ t))
    (λ h. every_at p N ms (both_right _ _ t) h)
    (either (eqb N m) (one_of N ms) e)

-- ---- a length is 2 to the power of its level, which is at most 10 and the number of its trailing zeros
levelled : ℕ → Bool
levelled N = both (eqb N (2 ^ level N)) (both (leb (level N) top_level) (eqb (count_trailing_zeros 64 N) (level N)))

levelled_at : (N : ℕ) → is_length N ≡ true → T (levelled N)
unfolding is_length level count_trailing_zeros both every levelled
levelled_at N h = every_at levelled N lengths tt h

pub is_power : (N : ℕ) → is_length N ≡ true → N ≡ 2 ^ level N
unfolding levelled
is_power N h = eqb→eq _ _ (both_left _ _ (levelled_at N h))

pub level_le : (N : ℕ) → is_length N ≡ true → level N ≤ top_level
unfolding levelled
level_le N h = leb→le _ _ (both_left _ _ (both_right _ _ (levelled_at N h)))

-- and only a length has such a level
placed : (N : ℕ) (ms : List ℕ) → place_in N ms < length ms → one_of N ms ≡ true
placed N [] h = absurd (omega arith)
placed N (m ∷ ms) h = by (eqb N m) h (placed N ms)
  where
    by : (b : Bool) → cond b 0 (suc (place_in N ms)) < suc (length ms) → (place_in N ms < length ms → one_of N ms ≡ true)
        → (b || one_of N ms) ≡ true
    by true l further = refl
    by false l further = further (omega arith)

pub has_level : (N : ℕ) → level N ≤ top_level → is_length N ≡ true
unfolding is_length level
has_level N h = placed N lengths (omega arith)

pub trailing : (N : ℕ) → is_length N ≡ true → count_trailing_zeros 64 N ≡ level N
unfolding levelled
trailing N h = eqb→eq _ _ (both_right _ _ (both_right _ _ (levelled_at N h)))

pub length_le : (N : ℕ) → is_length N ≡ true → N ≤ 1024
length_le N h = omega (arith, is_power N h, pow_mono (level_le N h))

pub as_len : (N : ℕ) → is_length N ≡ true → N ≡ len (level N)
as_len N h = is_power N h ∙ pow_len (level N)

pub length_pos : (N : ℕ) → is_length N ≡ true → 1 ≤ N
length_pos N h = omega (arith, as_len N h, len_pos (level N))

-- ---- a length divides 1,024
pub divides : (N : ℕ) → is_length N ≡ true → N * (1024 / N) ≡ 1024
divides N h =
    let e : N * per (level N) ≡ 1024 = rw (sym (as_len N h)) at (len_per (level N) (level_le N h)) in
    rw (quotient N _ _ 1024 e (sym e)) e

-- ---- half of a length is a length, of the level below, and from 4 on a quarter too
pub record Half (N : ℕ) : Type 0 where
  pub ok : is_length (N / 2) ≡ true
  pub level_is : level N ≡ suc (level (N / 2))
  pub twice : N ≡ 2 * len (level (N / 2))

halvable : ℕ → Bool
halvable N = cond (ltb N 2) true (both (is_length (N / 2)) (eqb (level N) (suc (level (N / 2)))))

halvable_at : (N : ℕ) → is_length N ≡ true → 2 ≤ N → T (both (is_length (N / 2)) (eqb (level N) (suc (level (N / 2)))))
unfolding is_length level both every halvable
halvable_at N h l = rw (le-ltb N 2 l) at (every_at halvable N lengths tt h)

is_true : (b : Bool) → T b → b ≡ true
is_true true t = refl
is_true false t = absurd t

pub half : (N : ℕ) → is_length N ≡ true → 2 ≤ N → Half N
half N h l =
    let t = halvable_at N h l in
    let e = eqb→eq _ _ (both_right _ _ t) in
    record { ok = is_true _ (both_left _ _ t); level_is = e; twice = as_len N h ∙ ap len e }

-- twice a length is one, but for the longest
doublable : ℕ → Bool
doublable N = cond (ltb 512 N) true (is_length (2 * N))

pub twice_length : (N : ℕ) → is_length N ≡ true → N ≤ 512 → is_length (2 * N) ≡ true
unfolding is_length both every doublable
twice_length N h l = is_true _ (rw (le-ltb 512 N l) at (every_at doublable N lengths tt h))

pub twice_half : (N : ℕ) → is_length N ≡ true → 2 ≤ N → 2 * (N / 2) ≡ N
twice_half N h l = omega (arith, (half N h l).twice)

pub record Quarter (N : ℕ) : Type 0 where
  pub half_ok : is_length (N / 2) ≡ true
  pub ok : is_length (N / 4) ≡ true
  pub half_level : level (N / 2) ≡ suc (level (N / 4))
  pub level_is : level N ≡ suc (suc (level (N / 4)))
  pub four : N ≡ 4 * len (level (N / 4))

pub quarter : (N : ℕ) → is_length N ≡ true → 4 ≤ N → Quarter N
quarter N h l =
    let first = half N h (omega arith) in
    let e : N / 2 / 2 ≡ N / 4 = omega arith in
    let second = half (N / 2) first.ok (omega arith) in
    let below : level (N / 2) ≡ suc (level (N / 4)) = rw e at second.level_is in
    record {
      half_ok = first.ok;
      ok = rw e at second.ok;
      half_level = below;
      level_is = first.level_is ∙ ap suc below;
      four = omega (arith, first.twice, ap len below);
    }

-- ---- the level of 1, and of the lengths above
pub exponent_lt : (L M : ℕ) → 2 ^ L < 2 ^ M → L < M
exponent_lt L M h = ⊎_elim (λ l. absurd (omega (arith, pow_mono l))) (λ l. l) (le_or_lt M L)

-- the next length after 2 ^ L
pub next_length : (L N : ℕ) → is_length N ≡ true → 2 ^ L < N → N ≤ 2 ^ suc L → N ≡ 2 ^ suc L
next_length L N h l m =
    let e = is_power N h in
    omega (arith, e, pow_mono {i = suc L} {j = level N} (exponent_lt L (level N) (omega (arith, e))))

pub one_level : (N : ℕ) → N ≡ 1 → level N ≡ 0
unfolding level
one_level N e = ap level e

pub some_level : (N : ℕ) → is_length N ≡ true → 2 ≤ N → 1 ≤ level N
some_level N h l = exponent_lt 0 (level N) (omega (arith, is_power N h))

pub from_two : (N : ℕ) → is_length N ≡ true → (N ≡ 1 → ⊥) → (is_length N ≡ true) × (2 ≤ N) × (N ≤ 1024)
from_two N h l = (h, omega (arith, is_power N h, pow_pos (level N)), length_le N h)

-- ---- up to 1,024 the lengths are the numbers of which one binary digit is 1
digits : (k n : ℕ) → n < 2 ^ k → ones n ≡ ones_in k n
unfolding ones ones_in
digits zero n h = ap ones {x = n} {y = 0} (omega arith)
digits (suc k) n h = ones_step n ∙ ap (λ m. n % 2 + m) (digits k (n / 2) (omega (arith, pow-succ' 2 k)))

same : Bool → Bool → Bool
same a b = cond a b (not b)

same_eq : (a b : Bool) → T (same a b) → a ≡ b
unfolding same
same_eq true true t = refl
same_eq true false t = absurd t
same_eq false true t = absurd t
same_eq false false t = refl

tested : ℕ → Bool
tested N = same (is_length N) (eqb (ones_in 11 N) 1)

tested_all : T (below 1025 tested)
unfolding is_length ones_in both below same tested
tested_all = tt

pub length_digit : (N : ℕ) → N ≤ 1024 → is_length N ≡ eqb (ones N) 1
unfolding tested
length_digit N h = rw (digits 11 N (omega arith)) (same_eq _ _ (below_at 1025 tested tested_all N (omega arith)))

pub too_long : (N : ℕ) → 1024 < N → is_length N ≡ false
too_long N h = from (is_length N) (length_le N)
  where
    from : (b : Bool) → (b ≡ true → N ≤ 1024) → b ≡ false
    from true l = absurd (omega (arith, l refl))
    from false l = refl
