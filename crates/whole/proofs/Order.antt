-- The order of ℤ (`◌≤ℤ◌`, `◌<ℤ◌` of the library) at differences. (`lib.Signed` has its laws.)
-- Assumes nothing.
use Prim.Native.Nat.{ℕ, ◌+◌, ◌≤◌, ◌<◌}
use native.Mathlib.Omega.{arith}
use lib.Dec.{leb→le, ltb→lt, le→leb, lt→ltb}
use lib.IntN.{ℤ, pos, negsuc}
use lib.Signed.{◌≤ℤ◌, ◌<ℤ◌, le_z_yes, lt_z_yes}
use Rattle.whole.proofs.Difference.{◌⊖◌, plus, minus, ⊖-parts}

le_parts : (a b : ℤ) → a ≤ℤ b → plus a + minus b ≤ plus b + minus a
unfolding plus minus
le_parts (pos a) (pos b) h = omega (arith, leb→le a b h.le)
le_parts (pos a) (negsuc b) h = absurd h.le
le_parts (negsuc a) (pos b) h = omega arith
le_parts (negsuc a) (negsuc b) h = omega (arith, leb→le b a h.le)

parts_le : (a b : ℤ) → plus a + minus b ≤ plus b + minus a → a ≤ℤ b
unfolding plus minus
parts_le (pos a) (pos b) h = le_z_yes (le→leb a b (omega arith))
parts_le (pos a) (negsuc b) h = absurd (omega arith)
parts_le (negsuc a) (pos b) h = le_z_yes tt
parts_le (negsuc a) (negsuc b) h = le_z_yes (le→leb b a (omega arith))

lt_parts : (a b : ℤ) → a <ℤ b → plus a + minus b < plus b + minus a
unfolding plus minus
lt_parts (pos a) (pos b) h = omega (arith, ltb→lt a b h.lt)
lt_parts (pos a) (negsuc b) h = absurd h.lt
lt_parts (negsuc a) (pos b) h = omega arith
lt_parts (negsuc a) (negsuc b) h = omega (arith, ltb→lt b a h.lt)

parts_lt : (a b : ℤ) → plus a + minus b < plus b + minus a → a <ℤ b
unfolding plus minus
parts_lt (pos a) (pos b) h = lt_z_yes (lt→ltb a b (omega arith))
parts_lt (pos a) (negsuc b) h = absurd (omega arith)
parts_lt (negsuc a) (pos b) h = lt_z_yes tt
parts_lt (negsuc a) (negsuc b) h = lt_z_yes (lt→ltb b a (omega arith))

-- an order of differences: as a goal, and as a hypothesis
pub ⊖-le : (p n q m : ℕ) → p + m ≤ q + n → (p ⊖ n) ≤ℤ (q ⊖ m)
⊖-le p n q m h = parts_le _ _ (omega (arith, ⊖-parts p n, ⊖-parts q m))

pub ⊖-lt : (p n q m : ℕ) → p + m < q + n → (p ⊖ n) <ℤ (q ⊖ m)
⊖-lt p n q m h = parts_lt _ _ (omega (arith, ⊖-parts p n, ⊖-parts q m))

pub le-⊖ : (p n q m : ℕ) → (p ⊖ n) ≤ℤ (q ⊖ m) → p + m ≤ q + n
le-⊖ p n q m h = omega (arith, le_parts _ _ h, ⊖-parts p n, ⊖-parts q m)

pub lt-⊖ : (p n q m : ℕ) → (p ⊖ n) <ℤ (q ⊖ m) → p + m < q + n
lt-⊖ p n q m h = omega (arith, lt_parts _ _ h, ⊖-parts p n, ⊖-parts q m)
