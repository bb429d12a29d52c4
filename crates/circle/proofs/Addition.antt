-- The addition law. The sine form at p is the cosine form a quarter turn before p, so one induction on q, for all p, proves both:
-- a step more adds at most three step errors and 1/512 of the error so far.
-- Assumes nothing.
use mathlib.Core.Path.{◌≡◌, sym, ap, ◌∙◌}
use mathlib.Core.Logic.{⊎_elim}
use Prim.Native.Nat.{ℕ, zero, suc, ◌+◌, ◌*◌, ◌/◌, ◌%◌, ◌≤◌, ◌<◌}
use native.Mathlib.Nat.{add-zero, add-suc, le_trans, le_of_eq, mul-le-mul_left, mul-le-mul_right}
use native.Mathlib.Omega.{arith}
use lib.Dec.{lit<, lit≤}
use lib.IntN.{ℤ, neg_ℤ, ◌+ℤ◌, ◌-ℤ◌, ◌*ℤ◌}
use Rattle.whole.proofs.Cases.{le_or_lt}
use Rattle.whole.proofs.Difference.{int, parts, diff}
use Rattle.whole.proofs.Ring.{expand}
use Rattle.whole.proofs.Size.{near, ◌within◌, within_size, within_int, within_eq, within_le}
use Rattle.whole.proofs.Size.{within_add, within_sub, within_mul, within_cancel}
use Rattle.circle.specs.Circle.{B, K, sine_at}
use Rattle.circle.specs.Laws.{addition_error, Addition}
use Rattle.circle.proofs.Places.{turns_on, half_turn_on, K_zero}
use Rattle.circle.proofs.Wave.{K_within, K_start}
use Rattle.circle.proofs.Steps.{step_error, cos_one, sin_one, step_law}

-- ---- one step more. Cosine and sine of p are (c, s), of q (d, t), of q + 1 (d', t'), of p + q (f, g), the cosine of p + q + 1 is f';
-- the unit step is (a, o), and the steps miss by δ, ε, ζ
module _ (b η e u v : ℕ) (a o c s d t d' t' f g f' δ ε ζ : ℤ) (lb : 0 < b) (huv : 512 * (u + v) ≤ 513 * b)
    (ha : a within u) (ho : o within v) (hc : c within b) (hs : s within b)
    (hδ : δ within η * b) (hε : ε within η * b) (hζ : ζ within η * b)
    (cos-step : int b *ℤ d' ≡ a *ℤ d -ℤ o *ℤ t -ℤ δ) (sin-step : int b *ℤ t' ≡ o *ℤ d +ℤ a *ℤ t -ℤ ε)
    (far-step : int b *ℤ f' ≡ a *ℤ f -ℤ o *ℤ g -ℤ ζ)
    (cos-sum : c *ℤ d -ℤ s *ℤ t -ℤ int b *ℤ f within e * b) (sin-sum : s *ℤ d +ℤ c *ℤ t -ℤ int b *ℤ g within e * b) where
  -- the five errors, each with its weight, stay below b times the next error
  weights : u * (e * b) + v * (e * b) + b * (η * b) + b * (η * b) + b * (η * b) ≤ b * ((3 * η + e + e / 512 + 1) * b)
  weights = omega (arith, mul-le-mul_right (e * b) huv, mul-le-mul_left (b * b) rest)
    where
      rest : e ≤ 512 * (e / 512) + 512
      rest = omega arith

  spread : (b : ℤ) → b *ℤ (c *ℤ d' -ℤ s *ℤ t' -ℤ b *ℤ f') ≡ c *ℤ (b *ℤ d') -ℤ s *ℤ (b *ℤ t') -ℤ b *ℤ (b *ℤ f')
  spread b = simp expand

  gathered : (b : ℤ) → c *ℤ (a *ℤ d -ℤ o *ℤ t -ℤ δ) -ℤ s *ℤ (o *ℤ d +ℤ a *ℤ t -ℤ ε) -ℤ b *ℤ (a *ℤ f -ℤ o *ℤ g -ℤ ζ)
      ≡ a *ℤ (c *ℤ d -ℤ s *ℤ t -ℤ b *ℤ f) -ℤ o *ℤ (s *ℤ d +ℤ c *ℤ t -ℤ b *ℤ g) -ℤ c *ℤ δ +ℤ s *ℤ ε +ℤ b *ℤ ζ
  gathered b = simp expand

  next_sum : c *ℤ d' -ℤ s *ℤ t' -ℤ int b *ℤ f' within (3 * η + e + e / 512 + 1) * b
  next_sum =
      let turned = within_sub (within_mul ha cos-sum) (within_mul ho sin-sum) in
      let missed = within_add (within_add (within_sub turned (within_mul hc hδ)) (within_mul hs hε)) (within_mul (within_int b) hζ) in
      within_cancel b lb
      (within_le (within_eq (sym (spread (int b) ∙ rw (cos-step, sin-step, far-step) (gathered (int b)))) missed) weights)

-- ---- the induction
abbrev Cosine : ℕ → ℕ → ℕ → Type 0
Cosine p q m = K p *ℤ K q -ℤ sine_at p *ℤ sine_at q -ℤ int B *ℤ K (p + q) within m

abbrev Sine : ℕ → ℕ → ℕ → Type 0
Sine p q m = sine_at p *ℤ K q +ℤ K p *ℤ sine_at q -ℤ int B *ℤ sine_at (p + q) within m

-- the sine form at p is the cosine form at p + 3,072
as_sine : (p q m : ℕ) → Cosine (p + 3072) q m → Sine p q m
as_sine p q m h =
    within_eq (turned (sine_at p) (K p) (K q) (sine_at q) (int B) (sine_at (p + q)))
    (rw (half_turn_on (p + 3072 + 3072) p 1 (omega arith), ap K {x = p + 3072 + q} {y = p + q + 3072} (omega arith)) at h)
  where
    turned : (s c d t b g : ℤ) → s *ℤ d -ℤ neg_ℤ c *ℤ t -ℤ b *ℤ g ≡ s *ℤ d +ℤ c *ℤ t -ℤ b *ℤ g
    turned s c d t b g = simp expand

-- the error at q, in units of B
unfoldable err : ℕ → ℕ
err zero = 0
err (suc q) = let e = err q in 3 * step_error + e + e / 512 + 1

-- what a step misses, as an equation of its result
missed : (x y : ℤ) → y ≡ x -ℤ (x -ℤ y)
missed x y = rw (parts x, parts y) (simp diff (omega near))

at_start : (p : ℕ) → Cosine p 0 0
at_start p =
    let start : K 0 ≡ int B = (unfold int in K_start) in
    let east : sine_at 0 ≡ int 0 = (unfold int in K_zero 1) in
    rw (start, east, add-zero p) (none (K p) (sine_at p) (int B))
  where
    none : (c s b : ℤ) → c *ℤ b -ℤ s *ℤ int 0 -ℤ b *ℤ c within 0
    none c s b = rw (parts c, parts s, parts b) (simp diff (omega near))

cosine_sums : (q p : ℕ) → Cosine p q (err q * B)
unfolding err
cosine_sums zero p = at_start p
cosine_sums (suc q) p =
    rw (add-suc p q)
    (next_sum B step_error (err q) cos_one sin_one (int cos_one) (int sin_one) (K p) (sine_at p) (K q) (sine_at q)
    (K (suc q)) (sine_at (suc q)) (K (p + q)) (sine_at (p + q)) (K (suc (p + q))) _ _ _
    (lit< tt) (lit≤ tt) (within_int cos_one) (within_int sin_one) (K_within p) (K_within (p + 3072))
    (step_law q).0 (step_law q).1 (step_law (p + q)).0
    (missed (int cos_one *ℤ K q -ℤ int sin_one *ℤ sine_at q) (int B *ℤ K (suc q)))
    (missed (int sin_one *ℤ K q +ℤ int cos_one *ℤ sine_at q) (int B *ℤ sine_at (suc q)))
    (missed (int cos_one *ℤ K (p + q) -ℤ int sin_one *ℤ sine_at (p + q)) (int B *ℤ K (suc (p + q))))
    (cosine_sums q p) (as_sine p q (err q * B) (cosine_sums q (p + 3072))))

-- ---- at every place
err_grows : (q n : ℕ) → q ≤ n → err q ≤ err n
unfolding err
err_grows q zero h = le_of_eq (ap err {x = q} {y = 0} (omega arith))
err_grows q (suc n) h = ⊎_elim
    (λ l. omega (arith, err_grows q n l))
    (λ l. le_of_eq (ap err {x = q} {y = suc n} (omega arith)))
    (le_or_lt q n)

err_small : err 4095 ≤ addition_error
unfolding err
err_small = lit≤ tt

pub addition : (p q : ℕ) → Addition p q
unfolding int
addition p q = record {
  cosine = within_size (everywhere p q);
  sine = within_size (as_sine p q (addition_error * B) (everywhere (p + 3072) q));
}
  where
    everywhere : (p q : ℕ) → Cosine p q (addition_error * B)
    everywhere p q =
        rw (
          turns_on q (q % 4096) (q / 4096) (omega arith),
          turns_on (q + 3072) (q % 4096 + 3072) (q / 4096) (omega arith),
          turns_on (p + q) (p + q % 4096) (q / 4096) (omega arith),
        )
        (within_le (cosine_sums (q % 4096) p) (mul-le-mul_right B (le_trans (err_grows (q % 4096) 4095 (omega arith)) err_small)))
