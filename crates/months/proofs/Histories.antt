-- Sums over a history: one block more, how large they are, and how far from the exact ones.
-- Assumes nothing.
use mathlib.Core.Path.{◌≡◌, refl, sym, ap, ◌∙◌}
use mathlib.Core.List.{[], ◌∷◌, ◌++◌}
use Prim.Native.Nat.{ℕ, ◌+◌, ◌*◌, ◌≤◌}
use native.Mathlib.Omega.{arith}
use lib.IntN.{ℤ, pos, nat_abs, ◌+ℤ◌, ◌-ℤ◌, ◌*ℤ◌, +ℤ_assoc, +ℤ_comm}
use lib.ListN.{length}
use Rattle.whole.proofs.Ring.{expand}
use Rattle.whole.proofs.Size.{size_add}
use Rattle.circle.specs.Circle.{B}
use Rattle.words.specs.Words.{Samples}
use Rattle.lengths.specs.Block.{AcceptedBlock, level}
use Rattle.ffct.specs.Exact.{distance, eighth, Within}
use Rattle.months.specs.Accounts.{History, sum_over, AllAccepted, eighths}

-- ---- one block more
pub sum_more : (f : Samples → ℤ) (history : History) (x : Samples) → sum_over f (history ++ (x ∷ [])) ≡ sum_over f history +ℤ f x
unfolding sum_over
sum_more f [] x = +ℤ_comm (f x) (pos 0)
sum_more f (y ∷ history) x = ap (λ z. f y +ℤ z) (sum_more f history x) ∙ sym (+ℤ_assoc (f y) (sum_over f history) (f x))

pub accepted_more : (N : ℕ) (history : History) (x : Samples) → AllAccepted N history → AcceptedBlock (level N) x
    → AllAccepted N (history ++ (x ∷ []))
unfolding AllAccepted
accepted_more N [] x all a = (a, tt)
accepted_more N (y ∷ history) x all a = (all.0, accepted_more N history x all.1 a)

-- ---- n numbers of at most m in size
pub sum_size : (N m : ℕ) (f : Samples → ℤ) → ((x : Samples) → AcceptedBlock (level N) x → nat_abs (f x) ≤ m)
    → (history : History) → AllAccepted N history → nat_abs (sum_over f history) ≤ length history * m
unfolding sum_over AllAccepted
sum_size N m f each [] all = omega arith
sum_size N m f each (x ∷ history) all =
    omega (arith, size_add (f x) (sum_over f history), each x all.0, sum_size N m f each history all.1)

-- ---- n numbers within N/8 of theirs
distance_sum : (b y z E F : ℤ) → (y +ℤ z) *ℤ b -ℤ (E +ℤ F) ≡ (y *ℤ b -ℤ E) +ℤ (z *ℤ b -ℤ F)
distance_sum b y z E F = simp expand refl

distance_add : (y z E F : ℤ) → distance (y +ℤ z) (E +ℤ F) ≤ distance y E + distance z F
distance_add y z E F = rw (distance_sum (pos B) y z E F) (size_add (y *ℤ pos B -ℤ E) (z *ℤ pos B -ℤ F))

pub sum_near : (N : ℕ) (f g : Samples → ℤ) → ((x : Samples) → AcceptedBlock (level N) x → Within (eighth N) (f x) (g x))
    → (history : History) → AllAccepted N history → Within (eighths (length history) N) (sum_over f history) (sum_over g history)
unfolding sum_over AllAccepted
sum_near N f g each [] all = record { near = omega arith }
sum_near N f g each (x ∷ history) all = record {
  near = omega (
    arith,
    distance_add (f x) (sum_over f history) (g x) (sum_over g history),
    (each x all.0).near,
    (sum_near N f g each history all.1).near,
  );
}
