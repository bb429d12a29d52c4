-- Floor division (`shr_z v m` of the library), and rounding to the nearest multiple by it.
-- Assumes nothing.
use mathlib.Core.Path.{◌≡◌, ap}
use Prim.Native.Nat.{ℕ, suc, ◌+◌, ◌*◌, ◌-◌, ◌/◌, ◌%◌, ◌<◌}
use native.Mathlib.Nat.{div-add-mod', mod-lt, mul-le-mul, le_refl}
use native.Mathlib.Omega.{arith}
use lib.IntN.{ℤ, pos, negsuc, neg_ℤ, ◌+ℤ◌, ◌-ℤ◌, ◌*ℤ◌}
use lib.Signed.{shr_z, ◌≤ℤ◌, ◌<ℤ◌}
use Rattle.whole.proofs.Difference.{parts, diff, int, ⊖-negsuc, ⊖-same}
use Rattle.whole.proofs.Order.{le-⊖, lt-⊖}
use Rattle.whole.proofs.Size.{near, ◌within◌, within_same, within_less}

-- q is the floor of v / m: v is q m and a rest, and the rest is below m
pub record Floor (v : ℤ) (m : ℕ) (q : ℤ) : Type 0 where
  pub rest : ℕ
  pub below : rest < m
  pub split : v ≡ q *ℤ int m +ℤ int rest

below_zero : (a m q r : ℕ) → suc a + r ≡ suc q * m → negsuc a ≡ negsuc q *ℤ int m +ℤ int r
below_zero a m q r h = rw (⊖-negsuc a, ⊖-negsuc q) (simp diff (omega near))

pub floor : (v : ℤ) (m : ℕ) → 0 < m → Floor v m (shr_z v m)
floor (pos a) m h =
    record { rest = a % m; below = mod-lt a h; split = unfold int in ap pos (omega (arith, div-add-mod' a m)) }
floor (negsuc a) m h =
    let l = mod-lt a h in
    record { rest = m - 1 - a % m; below = omega arith; split = below_zero a m (a / m) (m - 1 - a % m) (omega (arith, div-add-mod' a m)) }

-- that fixes q
pub floor_only : (v : ℤ) (m : ℕ) {q : ℤ} → Floor v m q → 0 < m → shr_z v m ≡ q
floor_only v m {q} f l = go (shr_z v m) (floor v m l)
  where
    go : (p : ℤ) → Floor v m p → p ≡ q
    go p g =
        let a = ⊖-same _ _ _ _ (simp diff at (rw (parts v, parts q) at f.split)) in
        let b = ⊖-same _ _ _ _ (simp diff at (rw (parts v, parts p) at g.split)) in
        let s = f.below in
        let t = g.below in
        within_same p q (within_less m l (rw (parts p, parts q) (simp diff (omega near))))

pub floor_one : (v : ℤ) → shr_z v 1 ≡ v
floor_one v = floor_only v 1 (record { rest = 0; below = omega arith; split = rw (parts v) (simp diff (omega near)) }) (omega arith)

-- ---- q m is the multiple of m nearest to v, a tie going to the larger (`Nearest` of specs/Round, with `int`)
pub record NearestMultiple (m : ℕ) (v q : ℤ) : Type 0 where
  pub low : neg_ℤ (int m) ≤ℤ (int 2 *ℤ (v -ℤ int m *ℤ q))
  pub high : (int 2 *ℤ (v -ℤ int m *ℤ q)) <ℤ int m

module _ (m : ℕ) (v : ℤ) where
  -- that fixes q
  pub nearest_only : (p q : ℤ) → NearestMultiple m v p → NearestMultiple m v q → p ≡ q
  nearest_only p q s t = within_same p q (within_less m some off)
    where
      some : 0 < m
      some =
          let s₁ = le-⊖ _ _ _ _ (simp diff at (rw (parts v, parts p) at s.low)) in
          let s₂ = lt-⊖ _ _ _ _ (simp diff at (rw (parts v, parts p) at s.high)) in
          omega arith

      off : int m *ℤ (p -ℤ q) within m - 1
      off =
          let s₁ = le-⊖ _ _ _ _ (simp diff at (rw (parts v, parts p) at s.low)) in
          let s₂ = lt-⊖ _ _ _ _ (simp diff at (rw (parts v, parts p) at s.high)) in
          let t₁ = le-⊖ _ _ _ _ (simp diff at (rw (parts v, parts q) at t.low)) in
          let t₂ = lt-⊖ _ _ _ _ (simp diff at (rw (parts v, parts q) at t.high)) in
          rw (parts p, parts q) (simp diff (omega near))

  pub nearest_within : (q : ℤ) → NearestMultiple m v q → int 2 *ℤ (q *ℤ int m -ℤ v) within m
  nearest_within q s =
      let l = le-⊖ _ _ _ _ (simp diff at (rw (parts v, parts q) at s.low)) in
      let u = lt-⊖ _ _ _ _ (simp diff at (rw (parts v, parts q) at s.high)) in
      rw (parts v, parts q) (simp diff (omega near))

  -- the floor of (2 v + m) / 2 m is such a q
  pub nearest_floor : 0 < m → NearestMultiple m v (shr_z (int 2 *ℤ v +ℤ int m) (2 * m))
  nearest_floor l = go (shr_z (int 2 *ℤ v +ℤ int m) (2 * m)) (floor (int 2 *ℤ v +ℤ int m) (2 * m) (omega arith))
    where
      go : (q : ℤ) → Floor (int 2 *ℤ v +ℤ int m) (2 * m) q → NearestMultiple m v q
      go q f =
          let e = ⊖-same _ _ _ _ (simp diff at (rw (parts v, parts q) at f.split)) in
          let b = f.below in
          record { low = rw (parts v, parts q) (simp diff (omega near)); high = rw (parts v, parts q) (simp diff (omega near)) }

  -- and so is, where m is 2 h d, that of (H + h) / 2 h, H being the floor of v / d
  pub nearest_quotient : (h d : ℕ) → m ≡ 2 * h * d → 0 < h → 0 < d → NearestMultiple m v (shr_z (shr_z v d +ℤ int h) (2 * h))
  nearest_quotient h d e l k =
      go (shr_z v d) (floor v d k) (shr_z (shr_z v d +ℤ int h) (2 * h)) (floor (shr_z v d +ℤ int h) (2 * h) (omega arith))
    where
      go : (H : ℤ) → Floor v d H → (q : ℤ) → Floor (H +ℤ int h) (2 * h) q → NearestMultiple m v q
      go H f q g =
          let a = ⊖-same _ _ _ _ (simp diff at (rw (parts v, parts H) at f.split)) in
          let b = ⊖-same _ _ _ _ (simp diff at (rw (parts H, parts q) at (ap (λ z. z *ℤ int d) g.split))) in
          let r = f.below in
          let s = mul-le-mul g.below (le_refl d) in
          record {
            low = rw (e, parts v, parts q) (simp diff (omega (near, a, b, r, s)));
            high = rw (e, parts v, parts q) (simp diff (omega (near, a, b, r, s)));
          }
