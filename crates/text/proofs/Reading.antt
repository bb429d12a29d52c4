-- Numbers in columns are read back: a number and its sign follow from its column. Assumes nothing.
use mathlib.Core.Path.{◌≡◌, refl, sym, ap, ◌∙◌}
use mathlib.Core.List.{List, ◌∷◌, ◌++◌}
use Prim.Native.Nat.{ℕ, zero, suc, ◌-◌, ◌≤◌}
use native.Mathlib.Omega.{arith}
use lib.IntN.{ℤ, pos, negsuc, nat_abs}
use lib.ListN.{length, drop, get_or}
use Rattle.text.specs.Decimal.{number, decimal, value}
use Rattle.text.specs.Alignment.{spaces, right_aligned}
use Rattle.text.proofs.Spelling.{number_value}

-- ---- its size: neither a space nor the minus sign has a value
spaces_value : (n : ℕ) (text : List ℕ) → value (spaces n ++ text) ≡ value text
spaces_value zero text = refl
spaces_value (suc n) text = spaces_value n text

decimal_value : (x : ℤ) → value (decimal x) ≡ nat_abs x
unfolding decimal
decimal_value (pos n) = number_value n
decimal_value (negsuc n) = number_value (suc n)

aligned_value : (width : ℕ) (x : ℤ) → value (right_aligned width (decimal x)) ≡ nat_abs x
unfolding right_aligned
aligned_value width x = spaces_value (width - length (decimal x)) (decimal x) ∙ decimal_value x

-- ---- its sign: a space stands where the minus sign would
no_sign : (i : ℕ) (text : List ℕ) → spaces (suc i) ++ text ≡ spaces i ++ (45 ∷ text) → ⊥
no_sign zero text e = omega (arith, ap (λ (l : List ℕ). get_or l 0 0) e)
no_sign (suc i) text e = no_sign i text (ap (λ (l : List ℕ). drop 1 l) e)

signs_differ : (width n : ℕ) → length (decimal (negsuc n)) ≤ width
    → right_aligned width (decimal (pos (suc n))) ≡ right_aligned width (decimal (negsuc n)) → ⊥
unfolding decimal right_aligned
signs_differ width n short e =
    let text = number (suc n) in
    let one_more : width - length text ≡ suc (width - suc (length text)) = omega arith in
    no_sign (width - suc (length text)) text (rw one_more at e)

-- ---- so a column is that of one number
pub aligned_back : (width : ℕ) (x y : ℤ) → length (decimal x) ≤ width → length (decimal y) ≤ width
    → right_aligned width (decimal x) ≡ right_aligned width (decimal y) → x ≡ y
aligned_back width x y a b e = by_sign x y a b e (sym (aligned_value width x) ∙ ap value e ∙ aligned_value width y)
  where
    by_sign : (x y : ℤ) → length (decimal x) ≤ width → length (decimal y) ≤ width
        → right_aligned width (decimal x) ≡ right_aligned width (decimal y) → nat_abs x ≡ nat_abs y → x ≡ y
    by_sign (pos n) (pos m) a b e s = ap pos s
    by_sign (negsuc n) (negsuc m) a b e s = ap negsuc (omega arith)
    by_sign (pos n) (negsuc m) a b e s = absurd (signs_differ width m b (rw s at e))
    by_sign (negsuc n) (pos m) a b e s = absurd (signs_differ width n a (rw (sym s) at (sym e)))
