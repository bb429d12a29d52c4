-- Sums that are kept in two words. Of a product that is added the floor over 2^30 goes to the high word and the rest to the low one; all
-- fit. Then the sum of every other product, as a loop makes it, with the place that goes on by a step.
-- Assumes nothing.
use mathlib.Core.Path.{◌≡◌, refl, sym, ap, ap₂, subst, ◌∙◌}
use mathlib.Core.List.{List, ◌++◌}
use Prim.Native.Nat.{ℕ, zero, suc, ◌+◌, ◌*◌, ◌/◌, ◌%◌, ◌^◌, ◌≤◌, ◌<◌}
use native.Mathlib.Numerals.{add-one}
use native.Mathlib.Omega.{arith}
use lib.Dec.{lit<}
use lib.IntN.{ℤ, pos, ◌+ℤ◌, ◌-ℤ◌, ◌*ℤ◌}
use lib.ListN.{length, drop, length-append, length-drop, get_or-append}
use lib.Seq.{drop_at, drop-drop, get_or-drop}
use lib.Signed.{shr_z}
use mir.Syntax.{w64}
use mir.Val.{SFits, of_z, to_z}
use Rattle.whole.proofs.Difference.{parts, diff, int, ⊖-same}
use Rattle.whole.proofs.Size.{
  near,
  ◌within◌,
  size_within,
  within_size,
  within_int,
  within_le,
  within_mul,
  within_add,
  within_sub,
  within_fits,
}
use Rattle.whole.proofs.Words as Words
use Rattle.whole.proofs.Words.{Word, asked, made, shifted, done}
use Rattle.whole.proofs.Operations.{Computes, computes, natural}
use Rattle.whole.proofs.Floor.{Floor, floor}
use Rattle.whole.specs.Sum.{sum as total}
use Rattle.words.specs.Words.{word}
use Rattle.inverse.specs.declared.sum.Sum.{Sum}
use Rattle.inverse.specs.Inverse.{T°}
use Rattle.inverse.specs.Steps.{held, Small, AddReady, Added, Joined, SumReady, SumMade}
use Rattle.inverse.proofs.Waves.{wave_small, wave_turns}

-- ---- high 2^30 + low, when something is added to both
module _ (high low p q : ℤ) where
  product_is : (high +ℤ q) *ℤ int (2 ^ 30) +ℤ (low +ℤ (p -ℤ q *ℤ int (2 ^ 30))) ≡ high *ℤ int (2 ^ 30) +ℤ low +ℤ p
  product_is = rw (parts high, parts low, parts p, parts q) (simp diff (omega near))

  sum_is : (high +ℤ p) *ℤ int (2 ^ 30) +ℤ (low +ℤ q) ≡ high *ℤ int (2 ^ 30) +ℤ low +ℤ (p *ℤ int (2 ^ 30) +ℤ q)
  sum_is = rw (parts high, parts low, parts p, parts q) (simp diff (omega near))

  difference_is : (high -ℤ p) *ℤ int (2 ^ 30) +ℤ (low -ℤ q) ≡ high *ℤ int (2 ^ 30) +ℤ low -ℤ (p *ℤ int (2 ^ 30) +ℤ q)
  difference_is = rw (parts high, parts low, parts p, parts q) (simp diff (omega near))

-- ---- the floor of a product over 2^30, and its rest
module _ (p : ℤ) (h : p within 2 ^ 60) where
  split : (q : ℤ) → Floor p (2 ^ 30) q → (q within 2 ^ 30) × (p -ℤ q *ℤ int (2 ^ 30) within 2 ^ 30)
  split q f =
      let e = ⊖-same _ _ _ _ (simp diff at (rw (parts p, parts q) at f.split)) in
      let b = f.below in
      (record { high = omega arith; low = omega arith }, rw (parts p, parts q) (simp diff (omega near)))

  floor_small : shr_z p (2 ^ 30) within 2 ^ 30
  floor_small = (split (shr_z p (2 ^ 30)) (floor p (2 ^ 30) (lit< tt))).0

  rest_small : p -ℤ shr_z p (2 ^ 30) *ℤ int (2 ^ 30) within 2 ^ 30
  rest_small = (split (shr_z p (2 ^ 30)) (floor p (2 ^ 30) (lit< tt))).1

-- ---- the words of a sum fit
module _ {m : ℕ} {sum : Sum} (s : Small m sum) (l : m * 2 ^ 30 < 2 ^ 63) where
  pub high_word : Word w64 (of_z w64 sum.high) sum.high
  high_word = Words.word (within_fits (size_within sum.high s.high_ok) l)

  pub low_word : Word w64 (of_z w64 sum.low) sum.low
  low_word = Words.word (within_fits (size_within sum.low s.low_ok) l)

-- ---- two sums added, or subtracted: what the operation on their words asks, and what it makes
record Joins (op : ℤ → ℤ → ℤ) (a b : Sum) : Type 0 where
  high : Computes op (of_z w64 a.high) (of_z w64 b.high) a.high b.high
  low : Computes op (of_z w64 a.low) (of_z w64 b.low) a.low b.low
  joined : Joined op a b (record { high = op a.high b.high; low = op a.low b.low })

module _ {a b : Sum} (s : Small 512 a) (t : Small 512 b) where
  joins : (op : ℤ → ℤ → ℤ) → ((x y : ℤ) (m k : ℕ) → x within m → y within k → op x y within m + k)
      → held (record { high = op a.high b.high; low = op a.low b.low }) ≡ op (held a) (held b) → Joins op a b
  joins op within-op is =
      let h = within-op _ _ _ _ (size_within a.high s.high_ok) (size_within b.high t.high_ok) in
      let l = within-op _ _ _ _ (size_within a.low s.low_ok) (size_within b.low t.low_ok) in
      record {
        high = computes op (high_word s (lit< tt)) (high_word t (lit< tt)) (within_fits h (lit< tt));
        low = computes op (low_word s (lit< tt)) (low_word t (lit< tt)) (within_fits l (lit< tt));
        joined = record { is = is; size = record { high_ok = within_size h; low_ok = within_size l } };
      }

  joins_sum : Joins ◌+ℤ◌ a b
  unfolding int
  joins_sum = joins ◌+ℤ◌ (λ x y m k h l. within_add h l) (sum_is a.high a.low b.high b.low)

  joins_difference : Joins ◌-ℤ◌ a b
  unfolding int
  joins_difference = joins ◌-ℤ◌ (λ x y m k h l. within_sub h l) (difference_is a.high a.low b.high b.low)

  pub sums_joined : Joined ◌+ℤ◌ a b (record {
    high = to_z w64 (done ◌+ℤ◌ (of_z w64 a.high) (of_z w64 b.high));
    low = to_z w64 (done ◌+ℤ◌ (of_z w64 a.low) (of_z w64 b.low));
  })
  sums_joined = rw (joins_sum.high.made, joins_sum.low.made) joins_sum.joined

  pub differences_joined : Joined ◌-ℤ◌ a b (record {
    high = to_z w64 (done ◌-ℤ◌ (of_z w64 a.high) (of_z w64 b.high));
    low = to_z w64 (done ◌-ℤ◌ (of_z w64 a.low) (of_z w64 b.low));
  })
  differences_joined = rw (joins_difference.high.made, joins_difference.low.made) joins_difference.joined

-- ---- what is kept then
module _ {sum : Sum} {x y : ℤ} (r : AddReady sum x y) where
  product_small : x *ℤ y within 2 ^ 60
  product_small = within_mul (size_within x r.x_ok) (size_within y r.y_ok)

  abbrev q : ℤ
  q = shr_z (x *ℤ y) (2 ^ 30)

  adds : Added sum x y (record { high = sum.high +ℤ q; low = sum.low +ℤ (x *ℤ y -ℤ q *ℤ int (2 ^ 30)) })
  unfolding int
  adds = record {
    is = product_is sum.high sum.low (x *ℤ y) q;
    grows = λ m s.
        let high = within_add (size_within sum.high s.high_ok) (floor_small (x *ℤ y) product_small) in
        let low = within_add (size_within sum.low s.low_ok) (rest_small (x *ℤ y) product_small) in
        record { high_ok = within_size (within_le high (omega arith)); low_ok = within_size (within_le low (omega arith)) };
  }

  -- the words of the code
  abbrev product_bits : ℕ
  product_bits = done ◌*ℤ◌ (of_z w64 x) (of_z w64 y)

  abbrev floor_bits : ℕ
  floor_bits = of_z w64 (shr_z (to_z w64 product_bits) (2 ^ 30))

  unit : Word w64 (2 ^ 30) (int (2 ^ 30))
  unit = natural (lit< tt)

  product : Word w64 product_bits (x *ℤ y)
  product = made ◌*ℤ◌ (Words.word (within_fits (size_within x r.x_ok) (lit< tt)))
      (Words.word (within_fits (size_within y r.y_ok) (lit< tt))) (within_fits product_small (lit< tt))

  floored : Word w64 floor_bits q
  floored = shifted (2 ^ 30) product

  scaled : Word w64 (done ◌*ℤ◌ floor_bits (2 ^ 30)) (q *ℤ int (2 ^ 30))
  scaled = made ◌*ℤ◌ floored unit (within_fits (within_mul (floor_small (x *ℤ y) product_small) (within_int (2 ^ 30))) (lit< tt))

  rest_fits : SFits w64 (x *ℤ y -ℤ q *ℤ int (2 ^ 30))
  rest_fits = within_fits (rest_small (x *ℤ y) product_small) (lit< tt)

  rest : Word w64 (done ◌-ℤ◌ product_bits (done ◌*ℤ◌ floor_bits (2 ^ 30))) (x *ℤ y -ℤ q *ℤ int (2 ^ 30))
  rest = made ◌-ℤ◌ product scaled rest_fits

  high_fits : SFits w64 (sum.high +ℤ q)
  high_fits = within_fits (within_add (size_within sum.high r.sum_ok.high_ok) (floor_small (x *ℤ y) product_small)) (lit< tt)

  low_fits : SFits w64 (sum.low +ℤ (x *ℤ y -ℤ q *ℤ int (2 ^ 30)))
  low_fits = within_fits (within_add (size_within sum.low r.sum_ok.low_ok) (rest_small (x *ℤ y) product_small)) (lit< tt)

  -- what they ask, and what they make
  pub rest_asked : SFits w64 (to_z w64 product_bits -ℤ to_z w64 (done ◌*ℤ◌ floor_bits (2 ^ 30)))
  rest_asked = asked ◌-ℤ◌ product scaled rest_fits

  pub low_asked : SFits w64 (to_z w64 (of_z w64 sum.low) +ℤ to_z w64 (done ◌-ℤ◌ product_bits (done ◌*ℤ◌ floor_bits (2 ^ 30))))
  low_asked = asked ◌+ℤ◌ (low_word r.sum_ok (lit< tt)) rest low_fits

  pub added : Added sum x y (record {
    high = to_z w64 (done ◌+ℤ◌ (of_z w64 sum.high) floor_bits);
    low = to_z w64 (done ◌+ℤ◌ (of_z w64 sum.low) (done ◌-ℤ◌ product_bits (done ◌*ℤ◌ floor_bits (2 ^ 30))));
  })
  added = rw (
    (made ◌+ℤ◌ (high_word r.sum_ok (lit< tt)) floored high_fits).is,
    (made ◌+ℤ◌ (low_word r.sum_ok (lit< tt)) rest low_fits).is,
  ) adds

-- what the check tries in `add_product`
pub ruleset product_added = (rest_asked, low_asked, added)

-- ---- the sum of every other product
module _ {first turn : ℕ} {cs : List ℤ} where
  pub sum_none : SumMade 0 first turn cs (record { high = pos 0; low = pos 0 })
  unfolding total
  sum_none = record { is = refl; size = record { high_ok = omega arith; low_ok = omega arith } }

  module _ {i : ℕ} {sum : Sum} {x y : ℤ} (made : SumMade i first turn cs sum)
      (c : x ≡ word cs (first + 2 * i)) (t : y ≡ T° (turn * (first + 2 * i))) where
    pub sum_ready : {m : ℕ} → SumReady m first turn cs → i < m → AddReady sum x y
    sum_ready r l = record {
      sum_ok = record { high_ok = omega (arith, made.size.high_ok, r.some); low_ok = omega (arith, made.size.low_ok, r.some) };
      x_ok = rw c (r.small (first + 2 * i) (omega (arith, r.even_or_odd)));
      y_ok = rw t (within_size (wave_small _));
    }

    pub sum_more : {sum' : Sum} → Added sum x y sum' → SumMade (i + 1) first turn cs sum'
    unfolding total
    sum_more a = record { is = rw add-one (a.is ∙ ap₂ ◌+ℤ◌ made.is (ap₂ ◌*ℤ◌ c t)); size = a.grows i made.size }

  pub sum_all : {i m : ℕ} {sum : Sum} → SumMade i first turn cs sum → i ≡ m → SumMade m first turn cs sum
  sum_all {sum = sum} made e = subst (λ n. SumMade n first turn cs sum) e made

-- ---- the coefficients in pairs: i pairs are gone, the rest is to come, and its first pair is next
pub record Turned (i : ℕ) (cs pair rest : List ℤ) : Type 0 where
  pub here : (k : ℕ) → k ≤ 1 → word pair k ≡ word cs (k + 2 * i)
  pub on : rest ≡ drop (2 * (i + 1)) cs
  pub some : 2 * (i + 1) ≤ length cs

pub turned : {i : ℕ} {cs pair rest before : List ℤ} → 2 * i ≤ length cs → before ≡ drop (2 * i) cs → before ≡ pair ++ rest → length pair ≡ 2
    → Turned i cs pair rest
turned {i} {cs} {pair} {rest} l d e two =
    let at : drop (2 * i) cs ≡ pair ++ rest = sym d ∙ e in
    record {
      here = λ k h.
          sym (get_or-append pair rest (pos 0) k (omega (arith, two)))
          ∙ ap (λ l. word l k) (sym at)
          ∙ get_or-drop (2 * i) cs k (pos 0)
          ∙ ap (word cs) (omega arith);
      on = sym (drop_at pair rest 2 two) ∙ ap (drop 2) (sym at) ∙ drop-drop 2 (2 * i) cs ∙ ap (λ n. drop n cs) (omega arith);
      some = omega (arith, ap length at, length-append pair rest, length-drop (2 * i) cs, two);
    }

-- ---- the place of a product
pub place_start : (first turn : ℕ) → first ≤ 1 → turn < 2048 → first * turn ≡ turn * (first + 0) % 4096
place_start zero turn h l = omega arith
place_start (suc zero) turn h l = omega arith
place_start (suc (suc n)) turn h l = absurd (omega arith)

pub place_on : (first turn i p : ℕ) → p ≡ turn * (first + 2 * i) % 4096 → (p + 2 * turn) % 4096 ≡ turn * (first + 2 * (i + 1)) % 4096
place_on first turn i p e = omega arith

pub place_wave : (p q : ℕ) {t : ℤ} → t ≡ T° p → p ≡ q % 4096 → t ≡ T° q
place_wave p q e h = e ∙ sym (wave_turns q p (q / 4096) (omega arith))
