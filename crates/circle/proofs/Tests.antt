-- Tests that the checker computes along a list of whole numbers, and what they say at each entry.
-- Assumes nothing.
use mathlib.Core.Path.{◌≡◌, refl, ap}
use mathlib.Core.Bool.{Bool, true, false}
use mathlib.Core.List.{List, [], ◌∷◌}
use Prim.Native.Nat.{ℕ, zero, suc, ◌<◌}
use native.Mathlib.Omega.{arith}
use lib.Dec.{T, leb, leb→le, eqb, eqb→eq}
use lib.ListN.{length, get_or}
use lib.IntN.{ℤ, pos, negsuc, nat_abs}
use lib.Signed.{lt_z, ◌<ℤ◌, lt_z_yes, non_neg}
use Rattle.whole.proofs.Cases.{both, both_left, both_right}
use Rattle.whole.proofs.Size.{◌within◌, size_within}

unfoldable pub small : ℤ → ℕ → Bool
small z m = leb (nat_abs z) m

pub small_within : (z : ℤ) (m : ℕ) → T (small z m) → z within m
unfolding small
small_within z m t = size_within z (leb→le _ _ t)

-- entry j, and 0 past the end
unfoldable pub entry : List ℤ → ℕ → ℤ
entry xs j = get_or xs j (pos 0)

-- every entry is of size at most m
unfoldable pub all_small : ℕ → List ℤ → Bool
all_small m [] = true
all_small m (x ∷ xs) = both (small x m) (all_small m xs)

pub all_small_lem : (m : ℕ) (xs : List ℤ) → T (all_small m xs) → (j : ℕ) → entry xs j within m
unfolding all_small entry
all_small_lem m [] t j = size_within (pos 0) (omega arith)
all_small_lem m (x ∷ xs) t zero = small_within x m (both_left _ _ t)
all_small_lem m (x ∷ xs) t (suc j) = all_small_lem m xs (both_right _ _ t) j

-- two lists are the same
unfoldable pub equal : ℤ → ℤ → Bool
equal (pos m) (pos n) = eqb m n
equal (pos m) (negsuc n) = false
equal (negsuc m) (pos n) = false
equal (negsuc m) (negsuc n) = eqb m n

equal_is : (a b : ℤ) → T (equal a b) → a ≡ b
unfolding equal
equal_is (pos m) (pos n) t = ap pos (eqb→eq m n t)
equal_is (pos m) (negsuc n) t = absurd t
equal_is (negsuc m) (pos n) t = absurd t
equal_is (negsuc m) (negsuc n) t = ap negsuc (eqb→eq m n t)

unfoldable pub same : List ℤ → List ℤ → Bool
same [] [] = true
same [] (y ∷ ys) = false
same (x ∷ xs) [] = false
same (x ∷ xs) (y ∷ ys) = both (equal x y) (same xs ys)

pub same_at : (xs ys : List ℤ) → T (same xs ys) → (j : ℕ) → entry xs j ≡ entry ys j
unfolding same entry
same_at [] [] t j = refl
same_at [] (y ∷ ys) t j = absurd t
same_at (x ∷ xs) [] t j = absurd t
same_at (x ∷ xs) (y ∷ ys) t zero = equal_is x y (both_left _ _ t)
same_at (x ∷ xs) (y ∷ ys) t (suc j) = same_at xs ys (both_right _ _ t) j

-- each entry is above the next
unfoldable pub falls : List ℤ → Bool
falls [] = true
falls (x ∷ []) = true
falls (x ∷ y ∷ xs) = both (lt_z y x) (falls (y ∷ xs))

pub falling : (xs : List ℤ) → T (falls xs) → (j : ℕ) → suc j < length xs → entry xs (suc j) <ℤ entry xs j
unfolding falls entry
falling [] t j h = absurd (omega arith)
falling (x ∷ []) t j h = absurd (omega arith)
falling (x ∷ y ∷ xs) t zero h = lt_z_yes (both_left _ _ t)
falling (x ∷ y ∷ xs) t (suc j) h = falling (y ∷ xs) (both_right _ _ t) j (omega arith)

-- no entry is negative
unfoldable pub none_below : List ℤ → Bool
none_below [] = true
none_below (x ∷ xs) = both (non_neg x) (none_below xs)

pub none_below_lem : (xs : List ℤ) → T (none_below xs) → (j : ℕ) → T (non_neg (entry xs j))
unfolding none_below entry
none_below_lem [] t j = tt
none_below_lem (x ∷ xs) t zero = both_left _ _ t
none_below_lem (x ∷ xs) t (suc j) = none_below_lem xs (both_right _ _ t) j
