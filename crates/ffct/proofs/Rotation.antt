-- The error of one rotation, for all lengths together: design constants as variables, so that the checker never multiplies digits.
-- Assumes nothing.
use mathlib.Core.Path.{◌≡◌, subst}
use Prim.Native.Nat.{ℕ, ◌+◌, ◌*◌, ◌/◌, ◌<◌}
use native.Mathlib.Nat.{le-div_iff_mul-le}
use native.Mathlib.Omega.{arith}
use lib.IntN.{ℤ, ◌+ℤ◌, ◌-ℤ◌, ◌*ℤ◌}
use Rattle.whole.proofs.Difference.{int, parts, diff}
use Rattle.whole.proofs.Ring.{expand}
use Rattle.whole.proofs.Size.{near, ◌within◌, size_within, within_size, within_int, within_eq, within_le, size_mul, size_int}
use Rattle.whole.proofs.Size.{within_add, within_sub, within_mul, within_trans, within_cancel}

-- the size of a coefficient C, from its distance to the exact sum E and the size of E
pub coefficient_size : (b : ℕ) (C E : ℤ) {e q : ℕ} → 0 < b → C *ℤ int b -ℤ E within e → E within q → C within (q + e) / b
coefficient_size b C E {e} {q} l h g =
    let scaled : C *ℤ int b within q + e = within_le (within_eq (back (C *ℤ int b) E) (within_add h g)) (omega arith) in
    size_within C ((le-div_iff_mul-le l).1 (rw (size_mul, size_int) at (within_size scaled)))
  where
    back : (x y : ℤ) → x -ℤ y +ℤ y ≡ x
    back x y = rw (parts x, parts y) (simp diff (omega near))

-- D is c C − s S rounded by 2 h. The table's c and s, times r, are within t of the circle's kc and ks; C and S, times b, are within e of
-- the exact sums E and F; the exact sums turned by (kc, ks) miss b G by at most b f. Then D, times b, is within the sum of four errors of G
module _ (h r t b e q f : ℕ) (c s C S kc ks E F G D : ℤ) (lb : 0 < b) (hb : 2 * h * r ≡ b)
    (rounded : D *ℤ int (2 * h) -ℤ (c *ℤ C -ℤ s *ℤ S) within h)
    (cos-entry : c *ℤ int r -ℤ kc within t) (sin-entry : s *ℤ int r -ℤ ks within t) (cos-le : kc within b) (sin-le : ks within b)
    (C-near : C *ℤ int b -ℤ E within e) (S-near : S *ℤ int b -ℤ F within e) (E-le : E within q) (F-le : F within q)
    (turned : kc *ℤ E -ℤ ks *ℤ F -ℤ int b *ℤ G within b * f) where
  -- what rounding adds
  by_rounding : D *ℤ int b -ℤ (c *ℤ C -ℤ s *ℤ S) *ℤ int r within h * r
  by_rounding =
      subst (λ n. D *ℤ int n -ℤ (c *ℤ C -ℤ s *ℤ S) *ℤ int r within h * r) hb
      (within_eq (scaled D (c *ℤ C -ℤ s *ℤ S)) (within_mul rounded (within_int r)))
    where
      scaled : (d u : ℤ) → (d *ℤ int (2 * h) -ℤ u) *ℤ int r ≡ d *ℤ int (2 * h * r) -ℤ u *ℤ int r
      scaled d u = rw (parts d, parts u) (simp diff (omega near))

  -- what the table adds
  by_table : (c *ℤ C -ℤ s *ℤ S) *ℤ int r -ℤ (kc *ℤ C -ℤ ks *ℤ S) within 2 * (t * ((q + e) / b))
  by_table =
      let cosine = within_mul cos-entry (coefficient_size b C E lb C-near E-le) in
      let sine = within_mul sin-entry (coefficient_size b S F lb S-near F-le) in
      within_le (within_eq (gathered (int r)) (within_sub cosine sine)) (omega arith)
    where
      gathered : (r : ℤ) → (c *ℤ r -ℤ kc) *ℤ C -ℤ (s *ℤ r -ℤ ks) *ℤ S ≡ (c *ℤ C -ℤ s *ℤ S) *ℤ r -ℤ (kc *ℤ C -ℤ ks *ℤ S)
      gathered r = simp expand

  -- what the errors of C and S, and the circle, add
  by_inputs : kc *ℤ C -ℤ ks *ℤ S -ℤ G within 2 * e + f
  by_inputs =
      within_cancel b lb
      (within_le
      (within_eq (factored (kc *ℤ C -ℤ ks *ℤ S) G)
      (within_trans ((kc *ℤ C -ℤ ks *ℤ S) *ℤ int b) (kc *ℤ E -ℤ ks *ℤ F) (int b *ℤ G)
      (within_eq (gathered (int b)) (within_sub (within_mul cos-le C-near) (within_mul sin-le S-near))) turned))
      (omega arith))
    where
      gathered : (b : ℤ) → kc *ℤ (C *ℤ b -ℤ E) -ℤ ks *ℤ (S *ℤ b -ℤ F) ≡ (kc *ℤ C -ℤ ks *ℤ S) *ℤ b -ℤ (kc *ℤ E -ℤ ks *ℤ F)
      gathered b = simp expand

      factored : (x y : ℤ) → x *ℤ int b -ℤ int b *ℤ y ≡ int b *ℤ (x -ℤ y)
      factored x y = simp expand

  pub rotation_error_lem : D *ℤ int b -ℤ G within h * r + 2 * (t * ((q + e) / b)) + (2 * e + f)
  rotation_error_lem =
      within_trans (D *ℤ int b) (kc *ℤ C -ℤ ks *ℤ S) G
      (within_trans (D *ℤ int b) ((c *ℤ C -ℤ s *ℤ S) *ℤ int r) (kc *ℤ C -ℤ ks *ℤ S) by_rounding by_table) by_inputs
