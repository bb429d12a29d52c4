-- The laws of finite sums.
-- Assumes nothing.
use mathlib.Core.Path.{◌≡◌, refl, sym, ◌∙◌, ap, ap₂, subst}
use mathlib.Core.Logic.{⊎_elim}
use Prim.Native.Nat.{ℕ, zero, suc, ◌+◌, ◌*◌, ◌-◌, ◌<◌, zero-le}
use native.Mathlib.Omega.{arith}
use lib.IntN.{ℤ, pos, neg_ℤ, ◌+ℤ◌, ◌-ℤ◌, ◌*ℤ◌, +ℤ_comm, +ℤ_assoc, *ℤ_comm, *ℤ-zero, +ℤ_idl, +ℤ_idr}
use Rattle.whole.specs.Sum.{sum}
use Rattle.whole.proofs.Cases.{le_or_lt}
use Rattle.whole.proofs.Difference.{int, parts, diff}
use Rattle.whole.proofs.Size.{near, ◌within◌, size_within, within_add, within_eq, within_le}

-- congruence: terms that are equal below N
pub sum_cong : (N : ℕ) (f g : ℕ → ℤ) → ((n : ℕ) → n < N → f n ≡ g n) → sum N f ≡ sum N g
unfolding sum
sum_cong zero f g h = refl
sum_cong (suc N) f g h = ap₂ ◌+ℤ◌ (sum_cong N f g (λ n l. h n (omega arith))) (h N (omega arith))

pub sum_zero : (N : ℕ) → sum N (λ n. pos 0) ≡ pos 0
unfolding sum
sum_zero zero = refl
sum_zero (suc N) = ap (λ z. z +ℤ pos 0) (sum_zero N)

pub sum_add : (N : ℕ) (f g : ℕ → ℤ) → sum N (λ n. f n +ℤ g n) ≡ sum N f +ℤ sum N g
unfolding sum
sum_add zero f g = refl
sum_add (suc N) f g = rw (sum_add N f g, parts (sum N f), parts (sum N g), parts (f N), parts (g N)) (simp diff (omega near))

pub sum_scale : (N : ℕ) (c : ℤ) (f : ℕ → ℤ) → sum N (λ n. c *ℤ f n) ≡ c *ℤ sum N f
unfolding sum
sum_scale zero c f = sym (*ℤ-zero c)
sum_scale (suc N) c f = rw (sum_scale N c f, parts c, parts (sum N f), parts (f N)) (simp diff (omega near))

pub sum_scaled : (N : ℕ) (f : ℕ → ℤ) (c : ℤ) → sum N (λ n. f n *ℤ c) ≡ sum N f *ℤ c
sum_scaled N f c = sum_cong N _ _ (λ n l. *ℤ_comm (f n) c) ∙ sum_scale N c f ∙ *ℤ_comm c (sum N f)

-- N times the same term
pub sum_same : (N : ℕ) (c : ℤ) → sum N (λ n. c) ≡ c *ℤ int N
unfolding sum
sum_same zero c = unfold int in sym (*ℤ-zero c)
sum_same (suc N) c = rw (sum_same N c, parts c) (simp diff (omega near))

pub sum_neg : (N : ℕ) (f : ℕ → ℤ) → sum N (λ n. neg_ℤ (f n)) ≡ neg_ℤ (sum N f)
unfolding sum
sum_neg zero f = refl
sum_neg (suc N) f = rw (sum_neg N f, parts (sum N f), parts (f N)) (simp diff (omega near))

pub sum_sub : (N : ℕ) (f g : ℕ → ℤ) → sum N (λ n. f n -ℤ g n) ≡ sum N f -ℤ sum N g
sum_sub N f g = sum_add N f (λ n. neg_ℤ (g n)) ∙ ap (λ z. sum N f +ℤ z) (sum_neg N g)

-- the first N terms, and the M after them
pub sum_split : (N M : ℕ) (f : ℕ → ℤ) → sum (N + M) f ≡ sum N f +ℤ sum M (λ n. f (N + n))
unfolding sum
sum_split N zero f = ap (λ k. sum k f) {x = N + 0} {y = N} (omega arith) ∙ sym (+ℤ_idr (sum N f))
sum_split N (suc M) f =
    ap (λ k. sum k f) {x = N + suc M} {y = suc (N + M)} (omega arith)
    ∙ ap (λ z. z +ℤ f (N + M)) (sum_split N M f)
    ∙ rw (parts (sum N f), parts (sum M (λ n. f (N + n))), parts (f (N + M))) (simp diff (omega near))

-- the first half, and the second
pub sum_halves : (N : ℕ) (f : ℕ → ℤ) → sum (2 * N) f ≡ sum N f +ℤ sum N (λ n. f (N + n))
sum_halves N f = ap (λ k. sum k f) {x = 2 * N} {y = N + N} (omega arith) ∙ sum_split N N f

-- the first term, and the others
pub sum_first : (N : ℕ) (f : ℕ → ℤ) → sum (suc N) f ≡ f 0 +ℤ sum N (λ n. f (n + 1))
unfolding sum
sum_first N f =
    ap (λ k. sum k f) {x = suc N} {y = 1 + N} (omega arith) ∙ sum_split 1 N f
    ∙ ap₂ ◌+ℤ◌ (+ℤ_idl (f 0)) (sum_cong N (λ n. f (1 + n)) (λ n. f (n + 1)) (λ n l. ap f (omega arith)))

-- the last term first
pub sum_reverse : (N : ℕ) (f : ℕ → ℤ) → sum N f ≡ sum N (λ n. f (N - 1 - n))
unfolding sum
sum_reverse zero f = refl
sum_reverse (suc N) f =
    sym
    (sum_first N (λ n. f (suc N - 1 - n))
    ∙ ap₂ ◌+ℤ◌ (ap f {x = suc N - 1 - 0} {y = N} (omega arith))
    (sum_cong N (λ n. f (suc N - 1 - (n + 1))) (λ n. f (N - 1 - n)) (λ n l. ap f (omega arith)) ∙ sym (sum_reverse N f))
    ∙ +ℤ_comm (f N) (sum N f))

-- the even places, and the odd
pub sum_even_odd : (N : ℕ) (f : ℕ → ℤ) → sum (2 * N) f ≡ sum N (λ n. f (2 * n)) +ℤ sum N (λ n. f (2 * n + 1))
unfolding sum
sum_even_odd zero f = refl
sum_even_odd (suc N) f =
    ap (λ m. sum m f) {x = 2 * suc N} {y = suc (suc (2 * N))} (omega arith)
    ∙ ap₂ (λ z m. z +ℤ f (2 * N) +ℤ f m) {u = suc (2 * N)} {v = 2 * N + 1} (sum_even_odd N f) (omega arith)
    ∙ rw (parts (sum N (λ n. f (2 * n))), parts (sum N (λ n. f (2 * n + 1))), parts (f (2 * N)), parts (f (2 * N + 1)))
    (simp diff (omega near))

-- a sum of sums, the other way round
pub sum_swap : (N M : ℕ) (f : ℕ → ℕ → ℤ) → sum N (λ n. sum M (λ m. f n m)) ≡ sum M (λ m. sum N (λ n. f n m))
unfolding sum
sum_swap N zero f = sum_zero N
sum_swap N (suc M) f = sum_add N (λ n. sum M (λ m. f n m)) (λ n. f n M) ∙ ap (λ z. z +ℤ sum N (λ n. f n M)) (sum_swap N M f)

-- N terms of size at most M
pub sum_within : (N : ℕ) (f : ℕ → ℤ) {M : ℕ} → ((n : ℕ) → n < N → f n within M) → sum N f within N * M
unfolding sum
sum_within zero f h = size_within (pos 0) zero-le
sum_within (suc N) f h = within_le (within_add (sum_within N f (λ n l. h n (omega arith))) (h N (omega arith))) (omega arith)

-- one term within M of t, and the others within M of 0
pub sum_one : (N m : ℕ) (f : ℕ → ℤ) (t : ℤ) {M : ℕ} → m < N → f m -ℤ t within M → ((n : ℕ) → n < N → (n ≡ m → ⊥) → f n within M) →
    sum N f -ℤ t within N * M
unfolding sum
sum_one zero m f t l h o = absurd (omega arith)
sum_one (suc N) m f t {M} l h o = ⊎_elim
    (λ g.
    let last = subst (λ n. f n -ℤ t within M) {x = m} {y = N} (omega arith) h in
    let others = sum_within N f (λ n k. o n (omega arith) (λ e. omega arith)) in
    within_le (within_eq (sym (+ℤ_assoc (sum N f) (f N) (neg_ℤ t))) (within_add others last)) (omega arith))
    (λ g.
    let others = sum_one N m f t g h (λ n k. o n (omega arith)) in
    within_le (within_eq (moved (sum N f) (f N) t) (within_add others (o N (omega arith) (λ e. omega arith)))) (omega arith))
    (le_or_lt N m)
  where
    moved : (a b t : ℤ) → a -ℤ t +ℤ b ≡ a +ℤ b -ℤ t
    moved a b t = rw (parts a, parts b, parts t) (simp diff (omega near))
