-- Parts of a slice that are lent and come back. Of a tail `part a xs` is what the callee is handed, and `back a xs ys` the whole when the
-- callee has left ys; of m words from place a on, `between a m xs` and `restored a m xs ys`.
-- Assumes nothing.
use mathlib.Core.Path.{◌≡◌, sym, ap, ◌∙◌}
use mathlib.Core.List.{List, ◌++◌, append-nil}
use mathlib.Core.Logic.{◌⊎◌, ⊎_elim}
use Prim.Native.Nat.{ℕ, ◌+◌, ◌-◌, ◌≤◌, ◌<◌}
use native.Mathlib.Omega.{arith}
use lib.IntN.{ℤ, pos}
use lib.ListN.{length, take, drop, length-append, length-drop, drop_of_length-le, get_or-append}
use lib.Seq.{take_all, take_at, drop_at, length-take-le, get_or-take, get_or-drop, get_or-append-add, ext_get_or}
use Rattle.words.specs.Words.{word}

abbrev pub part : ℕ → List ℤ → List ℤ
part a xs = take (length xs - a) (drop a xs)

abbrev pub back : ℕ → List ℤ → List ℤ → List ℤ
back a xs ys = take a xs ++ (ys ++ drop (length xs - a) (drop a xs))

part_is : (a : ℕ) (xs : List ℤ) → part a xs ≡ drop a xs
part_is a xs = take_all (length xs - a) (drop a xs) (omega (arith, length-drop a xs))

back_is : (a : ℕ) (xs ys : List ℤ) → back a xs ys ≡ take a xs ++ ys
back_is a xs ys =
    ap (λ l. take a xs ++ (ys ++ l)) (drop_of_length-le (drop a xs) {i = length xs - a} (omega (arith, length-drop a xs)))
    ∙ ap (λ l. take a xs ++ l) (append-nil ys)

pub part_length : (a : ℕ) (xs : List ℤ) → length (part a xs) ≡ length xs - a
part_length a xs = ap length (part_is a xs) ∙ length-drop a xs

pub part_at : (a : ℕ) (xs : List ℤ) (k : ℕ) → word (part a xs) k ≡ word xs (a + k)
part_at a xs k = ap (λ l. word l k) (part_is a xs) ∙ get_or-drop a xs k (pos 0)

module _ (a : ℕ) (xs ys : List ℤ) (h : a ≤ length xs) where
  pub back_length : length ys ≡ length (part a xs) → length (back a xs ys) ≡ length xs
  back_length e =
      ap length (back_is a xs ys) ∙ length-append (take a xs) ys ∙ omega (arith, length-take-le a xs h, e, part_length a xs)

  pub back_front : (k : ℕ) → k < a → word (back a xs ys) k ≡ word xs k
  back_front k l =
      ap (λ m. word m k) (back_is a xs ys)
      ∙ get_or-append (take a xs) ys (pos 0) k (omega (arith, length-take-le a xs h))
      ∙ get_or-take a xs k (pos 0) l

  pub back_at : (k : ℕ) → word (back a xs ys) (a + k) ≡ word ys k
  back_at k =
      ap (λ m. word m (a + k)) (back_is a xs ys)
      ∙ ap (λ m. word (take a xs ++ ys) (m + k)) (sym (length-take-le a xs h))
      ∙ get_or-append-add (take a xs) ys k (pos 0)

-- ---- m words from place a on
abbrev pub between : ℕ → ℕ → List ℤ → List ℤ
between a m xs = take m (drop a xs)

abbrev pub restored : ℕ → ℕ → List ℤ → List ℤ → List ℤ
restored a m xs ys = take a xs ++ (ys ++ drop m (drop a xs))

module _ (a m : ℕ) (xs : List ℤ) where
  pub between_at : (k : ℕ) → k < m → word (between a m xs) k ≡ word xs (a + k)
  between_at k h = get_or-take m (drop a xs) k (pos 0) h ∙ get_or-drop a xs k (pos 0)

  module _ (h : a + m ≤ length xs) where
    pub between_length : length (between a m xs) ≡ m
    between_length = length-take-le m (drop a xs) (omega (arith, length-drop a xs))

    module _ (ys : List ℤ) (e : length ys ≡ m) where
      front : length (take a xs) ≡ a
      front = length-take-le a xs (omega arith)

      pub restored_length : length (restored a m xs ys) ≡ length xs
      restored_length = simp (length-append, length-drop) (omega (arith, front))

      pub restored_low : (k : ℕ) → k < a → word (restored a m xs ys) k ≡ word xs k
      restored_low k l = get_or-append (take a xs) _ (pos 0) k (omega (arith, front)) ∙ get_or-take a xs k (pos 0) l

      behind : (k : ℕ) → word (restored a m xs ys) (a + k) ≡ word (ys ++ drop m (drop a xs)) k
      behind k = ap (λ n. word (restored a m xs ys) (n + k)) (sym front) ∙ get_or-append-add (take a xs) _ k (pos 0)

      pub restored_high : (k : ℕ) → word (restored a m xs ys) (a + (m + k)) ≡ word xs (a + (m + k))
      restored_high k =
          behind (m + k)
          ∙ ap (λ n. word (ys ++ drop m (drop a xs)) (n + k)) (sym e)
          ∙ get_or-append-add ys _ k (pos 0)
          ∙ get_or-drop m (drop a xs) k (pos 0)
          ∙ get_or-drop a xs (m + k) (pos 0)

      -- the part that was lent is what the callee has left there
      pub restored_part : between a m (restored a m xs ys) ≡ ys
      restored_part = ap (take m) (drop_at (take a xs) _ a front) ∙ take_at ys _ m e

      -- a part beside it is as it was
      beside : (k : ℕ) → (k < a) ⊎ (a + m ≤ k) → word (restored a m xs ys) k ≡ word xs k
      beside k = ⊎_elim (restored_low k) high
        where
          high : a + m ≤ k → word (restored a m xs ys) k ≡ word xs k
          high l = let place : a + (m + (k - (a + m))) ≡ k = omega arith in rw place at (restored_high (k - (a + m)))

      pub restored_beside : (b n : ℕ) → b + n ≤ length xs → ((k : ℕ) → k < n → (b + k < a) ⊎ (a + m ≤ b + k))
          → between b n (restored a m xs ys) ≡ between b n xs
      restored_beside b n l apart =
          let long : length (between b n (restored a m xs ys)) ≡ n =
          length-take-le n (drop b (restored a m xs ys)) (omega (arith, length-drop b (restored a m xs ys), restored_length)) in
          ext_get_or (pos 0) _ _ (long ∙ sym (length-take-le n (drop b xs) (omega (arith, length-drop b xs)))) (λ k i.
          let below : k < n = omega (arith, long) in
          get_or-take n (drop b (restored a m xs ys)) k (pos 0) below
          ∙ get_or-drop b (restored a m xs ys) k (pos 0)
          ∙ beside (b + k) (apart k below)
          ∙ sym (get_or-take n (drop b xs) k (pos 0) below ∙ get_or-drop b xs k (pos 0)))
