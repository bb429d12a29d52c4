-- A part of Pair: the cosine-DFT C of one block joined with the sine-DFT S of the other by an operation, + or -, at every k below n by
-- (9) and (10).
--     part-first, part-half, part-front, part-back    coefficient by coefficient
--     part-turn                                       a turn of the loop
--     part-ends                                       after the loop and the stores where the sine-DFT is zero
--     put-turned                                      two stores, the second of them named first
--     quarters                                        a slice in four parts of m words
-- Assumes nothing.
use mathlib.Core.Path.{◌≡◌, refl, sym, ap, ap₂, subst, ◌∙◌}
use mathlib.Core.List.{List}
use mathlib.Core.Logic.{⊎_elim}
use Prim.Native.Nat.{ℕ, ◌+◌, ◌-◌, ◌*◌, ◌/◌, ◌≤◌, ◌<◌}
use native.Mathlib.Omega.{arith}
use lib.IntN.{ℤ, pos, neg_ℤ, ◌+ℤ◌, ◌-ℤ◌, +ℤ_idr}
use lib.ListN.{take, drop}
use lib.Seq.{get_or-take, get_or-drop}
use Rattle.whole.proofs.Cases.{same_or_not}
use Rattle.whole.proofs.Difference.{parts, diff}
use Rattle.whole.proofs.Size.{near}
use Rattle.words.specs.Words.{word, Written, TwoPut}
use Rattle.words.proofs.Writing.{Ends, ends_both, ends_two}
use Rattle.ffct.specs.Transforms.{cosine_beyond, sine_beyond}
use Rattle.ffct.proofs.Steps.{cosine_low, cosine_high, sine_low, sine_high}
use Rattle.counts.specs.declared.tally.Tally.{Tally}
use Rattle.blocks.specs.Buffers.{Joinable, SumPut}

-- an operation and the other one
pub record Opposite (op rev : ℤ → ℤ → ℤ) : Type 0 where
  pub none : (x : ℤ) → op x (pos 0) ≡ x
  pub turned : (x y : ℤ) → op x (neg_ℤ y) ≡ rev x y

pub adding : Opposite ◌+ℤ◌ ◌-ℤ◌
adding = record { none = +ℤ_idr; turned = λ x y. refl }

pub subtracting : Opposite ◌-ℤ◌ ◌+ℤ◌
subtracting = record { none = +ℤ_idr; turned = λ x y. rw (parts x, parts y) (simp diff (omega near)) }

module _ {op rev : ℤ → ℤ → ℤ} (o : Opposite op rev) {n : ℕ} {C S : ℕ → ℤ} (s : Joinable n C S) where
  abbrev part : ℕ → ℤ
  part k = op (cosine_beyond n C k) (sine_beyond n S k)

  part_front : (k : ℕ) → k ≤ n / 2 → op (C k) (S k) ≡ part k
  part_front k h = rw (cosine_low n C k h, sine_low n S k h)

  part_first : C 0 ≡ part 0
  part_first = sym (o.none (C 0)) ∙ ap (op (C 0)) (sym s.first) ∙ part_front 0 (omega arith)

  part_half : C (n / 2) ≡ part (n / 2)
  part_half = sym (o.none (C (n / 2))) ∙ ap (op (C (n / 2))) (sym s.half) ∙ part_front (n / 2) (omega arith)

  part_back : (k : ℕ) → k ≤ n → n / 2 < n - k → rev (C k) (S k) ≡ part (n - k)
  part_back k l h =
      let e : n - (n - k) ≡ k = omega arith in
      rw (cosine_high n C (n - k) h, sine_high n S (n - k) h, e) (sym (o.turned (C k) (S k)))

  -- a turn of the loop, at k and n - k, from the coefficients at k
  part_turn : {k : ℕ} {x y : ℤ} {before between after : List ℤ} → (2 * (n / 2) ≡ n) × (1 ≤ k) × (k < n / 2) →
      Ends (pos 0) 1 (k - 1) (k - 1) (n - 1) (λ i. part (1 + i)) before between →
      TwoPut k (n - k) (op x y) (rev x y) between after → x ≡ C k → y ≡ S k →
      Ends (pos 0) 1 (k + 1 - 1) (k + 1 - 1) (n - 1) (λ i. part (1 + i)) before after
  part_turn {k} e run put c s =
      let up : 1 + (k - 1) ≡ k = omega arith in
      let down : 1 + (n - k - 1) ≡ n - k = omega arith in
      ends_both run (n - k - 1) (omega arith) put.len put.others
      (put.first ∙ ap₂ op c s ∙ rw up (part_front k (omega arith)))
      (put.second ∙ ap₂ rev c s ∙ rw down (part_back k (omega arith) (omega arith)))

  -- the loop has come to the middle, and the ends are put
  pub part_ends : {a h : ℕ} {u v : ℤ} {before between after : List ℤ} → (1 ≤ n) × (a ≡ n - n / 2 - 1) × (h ≡ n / 2)
      → ((n ≡ 1 → ⊥) → 2 * (n / 2) ≡ n) → Ends (pos 0) 1 a a (n - 1) (λ i. part (1 + i)) before between → TwoPut 0 h u v between after
      → u ≡ C 0 → v ≡ C h → Written 0 n part before after
  part_ends {h = h} {u = u} {v = v} {between = between} {after = after} (some, middle, half) whole run put c d =
      ends_two (some, middle) whole run (subst (λ i. TwoPut 0 i u v between after) half put) (c ∙ part_first)
      (d ∙ ap C half ∙ part_half)

put_turned : {i j : ℕ} {u v : ℤ} {before after : List ℤ} → TwoPut i j u v before after → TwoPut j i v u before after
put_turned p = record { first = p.second; second = p.first; others = λ k a b. p.others k b a; len = p.len }

-- a turn of the loop for either part, by what `put_sum_and_difference` has put
module _ {n : ℕ} {C S : ℕ → ℤ} (s : Joinable n C S) {k : ℕ} {x y : ℤ} {before between after : List ℤ} {spent total : Tally}
    (e : (2 * (n / 2) ≡ n) × (1 ≤ k) × (k < n / 2)) where
  pub real_turn : Ends (pos 0) 1 (k - 1) (k - 1) (n - 1) (λ i. part adding s (1 + i)) before between
      → SumPut x y k (n - k) between after spent total → x ≡ C k → y ≡ S k
      → Ends (pos 0) 1 (k + 1 - 1) (k + 1 - 1) (n - 1) (λ i. part adding s (1 + i)) before after
  real_turn run put = part_turn adding s e run put.both

  pub imaginary_turn : Ends (pos 0) 1 (k - 1) (k - 1) (n - 1) (λ i. part subtracting s (1 + i)) before between
      → SumPut x y (n - k) k between after spent total → x ≡ C k → y ≡ S k
      → Ends (pos 0) 1 (k + 1 - 1) (k + 1 - 1) (n - 1) (λ i. part subtracting s (1 + i)) before after
  imaginary_turn run put = part_turn subtracting s e run (put_turned put.both)

-- the sums of both parts
pub parts_sums : (n k : ℕ) → ((n ≡ 1 → ⊥) → 2 * (n / 2) ≡ n) → k ≡ n - n / 2 → 4 * (k - 1) ≡ 2 * (n - 2)
parts_sums n k whole e = ⊎_elim (λ one. omega arith) (λ more. let even = whole more in omega arith) (same_or_not n 1)

-- a slice in four parts of m words
pub record Quarters (m : ℕ) (xs a b c d : List ℤ) : Type 0 where
  pub first : (k : ℕ) → k < m → word a k ≡ word xs k
  pub second : (k : ℕ) → k < m → word b k ≡ word xs (m + k)
  pub third : (k : ℕ) → k < m → word c k ≡ word xs (2 * m + k)
  pub fourth : (k : ℕ) → k < m → word d k ≡ word xs (3 * m + k)

pub quarters : {m : ℕ} {xs front back a b c d : List ℤ} → front ≡ take (2 * m) xs → back ≡ drop (2 * m) xs → a ≡ take m front
    → b ≡ drop m front → c ≡ take m back → d ≡ drop m back → Quarters m xs a b c d
quarters {m} {xs} f g p q r s = record {
  first = λ k h. rw (p, f, get_or-take m (take (2 * m) xs) k (pos 0) h) (get_or-take (2 * m) xs k (pos 0) (omega arith));
  second = λ k h. rw (q, f, get_or-drop m (take (2 * m) xs) k (pos 0)) (get_or-take (2 * m) xs (m + k) (pos 0) (omega arith));
  third = λ k h. rw (r, g, get_or-take m (drop (2 * m) xs) k (pos 0) h) (get_or-drop (2 * m) xs k (pos 0));
  fourth = λ k h. rw (s, g, get_or-drop m (drop (2 * m) xs) k (pos 0))
      (get_or-drop (2 * m) xs (m + k) (pos 0) ∙ ap (word xs) {x = 2 * m + (m + k)} {y = 3 * m + k} (omega arith));
}
