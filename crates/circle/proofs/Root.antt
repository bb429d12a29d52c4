-- The roots of the halvings are whole-number roots.
-- Assumes nothing.
use mathlib.Core.Bool.{Bool, true, false, not, cond}
use mathlib.Core.Logic.{⊎_elim}
use Prim.Native.Nat.{ℕ, zero, suc, ◌+◌, ◌-◌, ◌*◌, ◌/◌, ◌^◌, ◌≤◌, ◌<◌, zero-le}
use native.Mathlib.Nat.{pow-suc, lt_of_le_of_lt, mul-le-mul_left, mul-le-mul}
use native.Mathlib.Omega.{arith}
use lib.Dec.{T, leb, leb→le, nleb→lt, lit<}
use Rattle.whole.proofs.Cases.{le_or_lt}
use Rattle.circle.specs.Circle.{B, root_of, root, halved}
use Rattle.circle.specs.Laws.{IsRoot}

either : (b : Bool) (v r : ℕ) → (T b → IsRoot v (r + 1)) → (T (not b) → IsRoot v r) → IsRoot v (cond b (r + 1) r)
either true v r f g = f tt
either false v r f g = g tt

-- one binary digit more
longer : (v r : ℕ) → IsRoot (v / 4) r → IsRoot v (cond (leb ((2 * r + 1) * (2 * r + 1)) v) (2 * r + 1) (2 * r))
longer v r h =
    either (leb ((2 * r + 1) * (2 * r + 1)) v) v (2 * r)
    (λ t. record { below = leb→le ((2 * r + 1) * (2 * r + 1)) v t; above = omega (arith, h.above) })
    (λ t. record { below = omega (arith, h.below); above = nleb→lt ((2 * r + 1) * (2 * r + 1)) v t })

pub root_law : (digits v : ℕ) → v < 4 ^ digits → IsRoot v (root_of digits v)
unfolding root_of
root_law zero v h = record { below = zero-le; above = h }
root_law (suc digits) v h = longer v (root_of digits (v / 4)) (root_law digits (v / 4) (omega (arith, pow-suc 4 digits)))

-- ---- the halvings
product_half : (b n : ℕ) → n ≤ 2 * b → b * n / 2 ≤ b * b
product_half b n h = omega (arith, mul-le-mul_left b h)

root_le : (b v r : ℕ) → v ≤ b * b → IsRoot v r → r ≤ b
root_le b v r h i = ⊎_elim (λ l. l) (λ l. absurd (omega (arith, i.below, mul-le-mul l l))) (le_or_lt r b)

-- the root of B n / 2, where n is at most 2 B
root_half : (n : ℕ) → n ≤ 2 * B → IsRoot (B * n / 2) (root (B * n / 2)) × (root (B * n / 2) ≤ B)
root_half n h =
    let u = product_half B n h in
    let r = root_law 81 (B * n / 2) (lt_of_le_of_lt u (lit< tt)) in
    (r, root_le B (B * n / 2) (root (B * n / 2)) u r)

cosine_le : (times : ℕ) → (halved times).0 ≤ B
unfolding halved
cosine_le zero = zero-le
cosine_le (suc times) = (root_half (B + (halved times).0) (omega (arith, cosine_le times))).1

-- each halving takes whole-number roots, of the numbers that document 01 gives
pub halving : (times : ℕ) →
    IsRoot (B * (B + (halved times).0) / 2) (halved (suc times)).0 × IsRoot (B * (B - (halved times).0) / 2) (halved (suc times)).1
unfolding halved
halving times =
    ((root_half (B + (halved times).0) (omega (arith, cosine_le times))).0, (root_half (B - (halved times).0) (omega arith)).0)
