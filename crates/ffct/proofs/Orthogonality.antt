-- The cosines of the DCT are orthogonal, and the exact sums give the block back. With n w = 1024 as in Sums: twice a product of two cosines
-- is B times the sum of two cosines, by the addition law, and the sums of these over all places are known without error. Coefficients near
-- the exact sums give the block back too, as nearly (`inverse_of_near`).
-- Assumes nothing.
use mathlib.Core.Path.{◌≡◌, refl, sym, ◌∙◌, ap, ap₂}
use mathlib.Core.Logic.{⊎_elim}
use Prim.Native.Nat.{ℕ, zero, suc, ◌+◌, ◌*◌, ◌-◌, ◌/◌, ◌%◌, ◌^◌, ◌<◌, ◌≤◌}
use native.Mathlib.Nat.{div-le_self}
use native.Mathlib.Omega.{arith}
use lib.Dec.{lit<}
use lib.IntN.{ℤ, pos, neg_ℤ, nat_abs, ◌+ℤ◌, ◌-ℤ◌, ◌*ℤ◌, +ℤ_invr}
use Rattle.whole.specs.Sum.{sum}
use Rattle.whole.proofs.Cases.{le_or_lt, same_or_not}
use Rattle.whole.proofs.Difference.{int, parts, diff}
use Rattle.whole.proofs.Ring.{expand, *ℤ-assoc, +ℤ-*ℤ}
use Rattle.whole.proofs.Size.{near, ◌within◌, size_within, within_size, within_int, within_eq, within_le, within_add, within_mul}
use Rattle.whole.proofs.Size.{within_trans, within_cancel}
use Rattle.whole.proofs.Sums.{sum_cong, sum_add, sum_sub, sum_neg, sum_scale, sum_scaled, sum_same, sum_halves, sum_first, sum_reverse}
use Rattle.whole.proofs.Sums.{sum_swap, sum_within, sum_one}
use Rattle.circle.specs.Circle.{B, K, sine_at}
use Rattle.circle.specs.Laws.{addition_error}
use Rattle.circle.proofs.Places.{mirror, opposite, turns_on, half_turn_on}
use Rattle.circle.proofs.Wave.{K_within, K_start}
use Rattle.words.specs.Words.{Samples}
use Rattle.lengths.specs.Block.{top_level}
use Rattle.ffct.specs.Exact.{exact_dct}
use Rattle.ffct.specs.Transforms.{apart}
use Rattle.ffct.specs.Orthogonality.{cosine_product, orthogonal_error, Orthogonal, exact_inverse, Inverts}
use Rattle.lengths.proofs.Lengths.{len, pow_len, per, len_per}
use Rattle.ffct.proofs.Sums.{dct_place, self_negated}
use Rattle.ffct.proofs.Splits.{near_sum}

start : K 0 ≡ int B
unfolding int
start = K_start

-- ---- the sum of the cosines at n places from 0 on, each the n-th part of j half turns behind the one before
unfoldable cosines : ℕ → ℕ → ℕ → ℤ
cosines w n j = sum n (λ k. K (2 * w * j * k))

cosines_none : (w n : ℕ) → cosines w n 0 ≡ int B *ℤ int n
unfolding cosines
cosines_none w n = sum_cong n _ (λ k. int B) (λ k h. ap K {x = 2 * w * 0 * k} {y = 0} (omega arith) ∙ start) ∙ sum_same n (int B)

-- an odd number of half turns: all but the first cancel
cosines_odd : (w n j : ℕ) → n * w ≡ 1024 → j % 2 ≡ 1 → cosines w n j ≡ int B
unfolding cosines
cosines_odd w zero j q o = absurd (omega arith)
cosines_odd w (suc n) j q o =
    sum_first n (λ k. K (2 * w * j * k))
    ∙ ap₂ ◌+ℤ◌ (ap K {x = 2 * w * j * 0} {y = 0} (omega arith) ∙ start) (self_negated (sum n f) turned)
    ∙ simp diff (omega near)
  where
    f : ℕ → ℤ
    f = λ k. K (2 * w * j * (k + 1))

    places : (r k : ℕ) → r + k + 1 ≡ n → 2 * w * j * (r + 1) + 2 * w * j * (k + 1) ≡ 4096 * (j / 2) + 2048
    places r k h = omega (arith, ap (λ t. 2 * w * j * t) h, ap (λ t. 2 * j * t) q)

    turned : sum n f ≡ neg_ℤ (sum n f)
    turned = sum_reverse n f ∙ sum_cong n _ _ (λ k h. opposite _ _ (j / 2) (places (n - 1 - k) k (omega arith))) ∙ sum_neg n f

-- an even number of them, more than 0 and less than 2 n: the second half of the sum is minus the first, or both are 0
cosines_even : (L w j : ℕ) → len L * w ≡ 1024 → 0 < j → j < 2 * len L → j % 2 ≡ 0 → cosines w (len L) j ≡ int 0
unfolding cosines
cosines_even zero w j q p l e = absurd (omega arith)
cosines_even (suc L) w j q p l e =
    sum_halves (len L) f
    ∙ ⊎_elim
    (λ h. again h (below ∙ cosines_even L (2 * w) (j / 2) (omega arith) (omega arith) (omega arith) h))
    (λ h. opposed h)
    (same_or_not (j / 2 % 2) 0)
  where
    f : ℕ → ℤ
    f = λ k. K (2 * w * j * k)

    below : sum (len L) f ≡ sum (len L) (λ k. K (2 * (2 * w) * (j / 2) * k))
    below = sum_cong (len L) _ _ (λ k l. ap K (omega (arith, ap (λ t. 2 * w * k * t) {x = j} {y = 2 * (j / 2)} (omega arith))))

    again : j / 2 % 2 ≡ 0 → sum (len L) f ≡ int 0 → sum (len L) f +ℤ sum (len L) (λ k. f (len L + k)) ≡ int 0
    again h z =
        let rest : j ≡ 4 * (j / 4) = omega arith in
        ap₂ ◌+ℤ◌ z (sum_cong (len L) _ _ (λ k l. turns_on _ _ (j / 4) (omega (arith, ap (λ t. t * j) q))) ∙ z) ∙ simp diff

    opposed : (j / 2 % 2 ≡ 0 → ⊥) → sum (len L) f +ℤ sum (len L) (λ k. f (len L + k)) ≡ int 0
    opposed h =
        let rest : j ≡ 4 * (j / 4) + 2 = omega arith in
        ap (λ z. sum (len L) f +ℤ z)
        (sum_cong (len L) _ _ (λ k l. half_turn_on _ _ (j / 4) (omega (arith, ap (λ t. t * j) q))) ∙ sum_neg (len L) f)
        ∙ (unfold int in +ℤ_invr (sum (len L) f))

-- one of each
cosines_both : (L w i j : ℕ) → len L * w ≡ 1024 → 0 < i → i < 2 * len L → 0 < j → j < 2 * len L → (i + j) % 2 ≡ 1 →
    cosines w (len L) i +ℤ cosines w (len L) j ≡ int B
cosines_both L w i j q pi li pj lj o = ⊎_elim
    (λ e. rw (cosines_even L w i q pi li e, cosines_odd w (len L) j q (omega arith)) (simp diff (omega near)))
    (λ e. rw (cosines_odd w (len L) i q (omega arith), cosines_even L w j q pj lj (omega arith)) (simp diff (omega near)))
    (same_or_not (i % 2) 0)

-- ---- twice a product of two cosines, where d is as far from 0 as p is from q, and the sum of such products
product_near : (p q d : ℕ) → K (p + 4095 * q) ≡ K d →
    int 2 *ℤ (K p *ℤ K q) -ℤ int B *ℤ (K (p + q) +ℤ K d) within orthogonal_error 1
product_near p q d e =
    let far = near_sum p (4095 * q) in
    let back = rw (mirror (4095 * q) q q (omega arith), opposite (4095 * q + 3072) (q + 3072) (q + 1) (omega arith), e) at far in
    within_le
    (within_eq (joined (int B) (K p) (K q) (sine_at p) (sine_at q) (K (p + q)) (K d)) (within_add (near_sum p q) back))
    (omega arith)
  where
    joined : (b c d s t u v : ℤ) →
        c *ℤ d -ℤ s *ℤ t -ℤ b *ℤ u +ℤ (c *ℤ d -ℤ s *ℤ neg_ℤ t -ℤ b *ℤ v) ≡ int 2 *ℤ (c *ℤ d) -ℤ b *ℤ (u +ℤ v)
    joined b c d s t u v = rw (parts b, parts c, parts d, parts s, parts t, parts u, parts v) (simp diff (omega near))

unfoldable products : ℕ → ℕ → ℕ → ℕ → ℤ
products w n r c = sum n (λ k. K ((2 * r + 1) * k * w) *ℤ K ((2 * c + 1) * k * w))

products_exact : (w n r c : ℕ) → n * w ≡ 1024 → cosine_product n r c ≡ products w n r c
unfolding cosine_product products
products_exact w n r c q =
    sum_cong n _ _ (λ k h. ap₂ (λ i j. K i *ℤ K j) (dct_place w n ((2 * r + 1) * k) q) (dct_place w n ((2 * c + 1) * k) q))

products_near : (w n r c : ℕ) →
    int 2 *ℤ products w n r c -ℤ int B *ℤ (cosines w n (r + c + 1) +ℤ cosines w n (apart r c)) within orthogonal_error n
unfolding products cosines apart
products_near w n r c =
    within_eq
    (sum_sub n _ _
    ∙ ap₂ ◌-ℤ◌ (sum_scale n (int 2) _) (sum_scale n (int B) _ ∙ ap (λ z. int B *ℤ z) (sum_add n _ _)))
    (sum_within n
    (λ k. int 2 *ℤ (K (p k) *ℤ K (q k)) -ℤ int B *ℤ (K (2 * w * (r + c + 1) * k) +ℤ K (2 * w * apart r c * k)))
    (λ k h. rw (ap K {x = 2 * w * (r + c + 1) * k} {y = p k + q k} (omega arith)) (product_near (p k) (q k) _ (far k))))
  where
    p : ℕ → ℕ
    p = λ k. (2 * r + 1) * k * w

    q : ℕ → ℕ
    q = λ k. (2 * c + 1) * k * w

    far : (k : ℕ) → K (p k + 4095 * q k) ≡ K (2 * w * apart r c * k)
    far k = ⊎_elim
        (λ l. turns_on _ _ (q k) (omega (arith, ap (λ t. 2 * w * k * t) {x = r} {y = c + apart r c} (omega arith))))
        (λ l. mirror _ _ (q k) (omega (arith, ap (λ t. 2 * w * k * t) {x = c} {y = r + apart r c} (omega arith))))
        (le_or_lt c r)

-- ---- the cosines are orthogonal
module _ (L r c : ℕ) (l : L ≤ top_level) (hr : r < 2 ^ L) (hc : c < 2 ^ L) where
  sums_near : {z : ℤ} → cosines (per L) (len L) (r + c + 1) +ℤ cosines (per L) (len L) (apart r c) ≡ z →
      int 2 *ℤ cosine_product (2 ^ L) r c -ℤ int B *ℤ z within orthogonal_error (2 ^ L)
  sums_near e = rw (pow_len L, products_exact (per L) (len L) r c (len_per L l), ← e) (products_near (per L) (len L) r c)

  pub same_near : r ≡ c →
      int 2 *ℤ cosine_product (2 ^ L) r c -ℤ int B *ℤ int B -ℤ int (2 ^ L) *ℤ (int B *ℤ int B) within orthogonal_error (2 ^ L)
  unfolding apart
  same_near e =
      within_eq (moved (int 2 *ℤ cosine_product (2 ^ L) r c) (int B) (int (2 ^ L)))
      (sums_near
      (ap₂ ◌+ℤ◌ (cosines_odd (per L) (len L) (r + c + 1) (len_per L l) (omega arith))
      (ap (cosines (per L) (len L)) {x = apart r c} {y = 0} (omega arith) ∙ cosines_none (per L) (len L)
      ∙ ap (λ n. int B *ℤ int n) (sym (pow_len L)))))
    where
      moved : (z b n : ℤ) → z -ℤ b *ℤ (b +ℤ b *ℤ n) ≡ z -ℤ b *ℤ b -ℤ n *ℤ (b *ℤ b)
      moved z b n = simp expand

  pub other_near : (r ≡ c → ⊥) → int 2 *ℤ cosine_product (2 ^ L) r c -ℤ int B *ℤ int B within orthogonal_error (2 ^ L)
  unfolding apart
  other_near o =
      let e = pow_len L in
      sums_near
      (cosines_both L (per L) (r + c + 1) (apart r c) (len_per L l) (omega arith) (omega arith) (omega arith) (omega arith) (omega arith))

pub orthogonal : (L m n : ℕ) → L ≤ top_level → m < 2 ^ L → n < 2 ^ L → Orthogonal (2 ^ L) m n
unfolding int
orthogonal L m n l hm hn =
    record { same = λ e. within_size (same_near L m n l hm hn e); other = λ o. within_size (other_near L m n l hm hn (λ e. omega arith)) }

-- ---- exact sums are additive, and so is their inverse
pub dct_sub : (N : ℕ) (x y : Samples) (k : ℕ) → exact_dct N (λ n. x n -ℤ y n) k ≡ exact_dct N x k -ℤ exact_dct N y k
unfolding exact_dct
dct_sub N x y k = sum_cong N _ _ (λ n h. out (x n) (y n) (K ((2 * n + 1) * k * 1024 / N))) ∙ sum_sub N _ _
  where
    out : (x y z : ℤ) → (x -ℤ y) *ℤ z ≡ x *ℤ z -ℤ y *ℤ z
    out x y z = simp expand

pub inverse_add : (N : ℕ) (E e : ℕ → ℤ) (n : ℕ) → exact_inverse N (λ k. E k +ℤ e k) n ≡ exact_inverse N E n +ℤ exact_inverse N e n
unfolding exact_inverse
inverse_add N E e n =
    ap (λ z. (E 0 +ℤ e 0) *ℤ pos B +ℤ pos 2 *ℤ z)
    (sum_cong (N - 1) _ _ (λ i h. +ℤ-*ℤ (E (i + 1)) (e (i + 1)) (c i)) ∙ sum_add (N - 1) (λ i. E (i + 1) *ℤ c i) (λ i. e (i + 1) *ℤ c i))
    ∙ joined (E 0) (e 0) (pos B) (pos 2) (sum (N - 1) (λ i. E (i + 1) *ℤ c i)) (sum (N - 1) (λ i. e (i + 1) *ℤ c i))
  where
    c : ℕ → ℤ
    c = λ i. K ((2 * n + 1) * (i + 1) * 1024 / N)

    joined : (u v b t y z : ℤ) → (u +ℤ v) *ℤ b +ℤ t *ℤ (y +ℤ z) ≡ u *ℤ b +ℤ t *ℤ y +ℤ (v *ℤ b +ℤ t *ℤ z)
    joined u v b t y z = simp expand

-- of multiples: d(k) is c(k) b below N
pub inverse_scale : (N : ℕ) (c d : ℕ → ℤ) (b : ℤ) (n : ℕ) → 0 < N → ((k : ℕ) → k < N → c k *ℤ b ≡ d k) →
    exact_inverse N c n *ℤ b ≡ exact_inverse N d n
unfolding exact_inverse
inverse_scale N c d b n l h =
    gathered (c 0) (pos B) (pos 2) (sum (N - 1) (λ i. c (i + 1) *ℤ z i))
    ∙ ap₂ (λ u s. u *ℤ pos B +ℤ pos 2 *ℤ s) (h 0 l)
    (sym (sum_scaled (N - 1) (λ i. c (i + 1) *ℤ z i) b)
    ∙ sum_cong (N - 1) _ _ (λ i k. turned (c (i + 1)) (z i) ∙ ap (λ u. u *ℤ z i) (h (i + 1) (omega arith))))
  where
    z : ℕ → ℤ
    z = λ i. K ((2 * n + 1) * (i + 1) * 1024 / N)

    gathered : (u v t s : ℤ) → (u *ℤ v +ℤ t *ℤ s) *ℤ b ≡ u *ℤ b *ℤ v +ℤ t *ℤ (s *ℤ b)
    gathered u v t s = simp expand

    turned : (u v : ℤ) → u *ℤ v *ℤ b ≡ u *ℤ b *ℤ v
    turned u v = simp expand

-- a term once and N - 1 terms twice, each at most t in size
pub twice_within : (N : ℕ) (a : ℤ) (f : ℕ → ℤ) {t : ℕ} → 0 < N → a within t → ((i : ℕ) → i < N - 1 → f i within t) →
    a +ℤ int 2 *ℤ sum (N - 1) f within (2 * N - 1) * t
twice_within N a f {t} l h g =
    within_le (within_add h (within_mul (within_int 2) (sum_within (N - 1) f g)))
    (omega (arith, ap (λ n. n * t) {x = 2 * N - 1} {y = 2 * (N - 1) + 1} (omega arith)))

pub inverse_size : (N : ℕ) (e : ℕ → ℤ) (n : ℕ) {m : ℕ} → 0 < N → ((k : ℕ) → k < N → e k within m) →
    exact_inverse N e n within (2 * N - 1) * (m * B)
unfolding exact_inverse int
inverse_size N e n l h =
    twice_within N _ _ l (within_mul (h 0 l) (within_int B)) (λ i k. within_mul (h (i + 1) (omega arith)) (K_within _))

-- ---- and the inverse gives the block back
first_place : (N a : ℕ) → K (a * 0 * 1024 / N) ≡ int B
first_place N a = ap K {x = a * 0 * 1024 / N} {y = 0} (omega (arith, div-le_self (a * 0 * 1024) N)) ∙ start

-- the first term once and the others twice is all of them twice, less the first
all_twice : (a s : ℤ) → a +ℤ int 2 *ℤ s ≡ int 2 *ℤ (a +ℤ s) -ℤ a
all_twice a s = rw (parts a, parts s) (simp diff (omega near))

inverse_sum : (N : ℕ) (E : ℕ → ℤ) (n : ℕ) → 0 < N →
    exact_inverse N E n ≡ int 2 *ℤ sum N (λ k. E k *ℤ K ((2 * n + 1) * k * 1024 / N)) -ℤ E 0 *ℤ int B
unfolding exact_inverse int
inverse_sum zero E n l = absurd (omega arith)
inverse_sum (suc N) E n l =
    ap (λ m. E 0 *ℤ int B +ℤ int 2 *ℤ sum m (λ i. f (i + 1))) {x = suc N - 1} {y = N} (omega arith)
    ∙ all_twice (E 0 *ℤ int B) (sum N (λ i. f (i + 1)))
    ∙ ap (λ z. int 2 *ℤ z -ℤ E 0 *ℤ int B)
    (ap (λ z. E 0 *ℤ z +ℤ sum N (λ i. f (i + 1))) (sym (first_place (suc N) (2 * n + 1))) ∙ sym (sum_first N f))
  where
    f : ℕ → ℤ
    f = λ k. E k *ℤ K ((2 * n + 1) * k * 1024 / suc N)

-- the sum over k of the sums over the samples, as a sum over the samples
inverse_spread : (N : ℕ) (x : Samples) (n : ℕ) → 0 < N →
    exact_inverse N (exact_dct N x) n ≡ sum N (λ i. x i *ℤ (int 2 *ℤ cosine_product N i n -ℤ int B *ℤ int B))
unfolding exact_dct cosine_product
inverse_spread N x n l =
    inverse_sum N (exact_dct N x) n l
    ∙ ap₂ ◌-ℤ◌
    (ap (λ z. int 2 *ℤ z) twice ∙ sym (sum_scale N (int 2) (λ i. x i *ℤ cosine_product N i n)))
    once
    ∙ sym (sum_sub N _ _)
    ∙ sum_cong N _ _ (λ i h. gathered (x i) (cosine_product N i n) (int 2) (int B *ℤ int B))
  where
    c : ℕ → ℕ → ℤ
    c = λ i k. K ((2 * i + 1) * k * 1024 / N)

    twice : sum N (λ k. sum N (λ i. x i *ℤ c i k) *ℤ c n k) ≡ sum N (λ i. x i *ℤ cosine_product N i n)
    twice =
        sum_cong N _ _ (λ k h. sym (sum_scaled N (λ i. x i *ℤ c i k) (c n k)))
        ∙ sum_swap N N (λ k i. x i *ℤ c i k *ℤ c n k)
        ∙ sum_cong N _ _ (λ i h. sum_cong N _ _ (λ k g. *ℤ-assoc (x i) (c i k) (c n k)) ∙ sum_scale N (x i) (λ k. c i k *ℤ c n k))

    once : sum N (λ i. x i *ℤ c i 0) *ℤ int B ≡ sum N (λ i. x i *ℤ (int B *ℤ int B))
    once =
        sym (sum_scaled N (λ i. x i *ℤ c i 0) (int B))
        ∙ sum_cong N _ _ (λ i h. ap (λ z. x i *ℤ z *ℤ int B) (first_place N (2 * i + 1)) ∙ *ℤ-assoc (x i) (int B) (int B))

    gathered : (x c t b : ℤ) → t *ℤ (x *ℤ c) -ℤ x *ℤ b ≡ x *ℤ (t *ℤ c -ℤ b)
    gathered x c t b = simp expand

pub inverse_near : (L : ℕ) (x : Samples) (n : ℕ) {X : ℕ} → L ≤ top_level → n < 2 ^ L → ((i : ℕ) → i < 2 ^ L → x i within X) →
    exact_inverse (2 ^ L) (exact_dct (2 ^ L) x) n -ℤ x n *ℤ (int (2 ^ L) *ℤ (int B *ℤ int B)) within 2 ^ L * (X * orthogonal_error (2 ^ L))
inverse_near L x n l hn b =
    rw (inverse_spread (2 ^ L) x n (omega arith))
    (sum_one (2 ^ L) n _ (x n *ℤ (int (2 ^ L) *ℤ (int B *ℤ int B))) hn
    (within_eq (out (x n) _ (int (2 ^ L) *ℤ (int B *ℤ int B))) (within_mul (b n hn) (same_near L n n l hn hn refl)))
    (λ i h o. within_mul (b i h) (other_near L i n l h hn o)))
  where
    out : (x y z : ℤ) → x *ℤ (y -ℤ z) ≡ x *ℤ y -ℤ x *ℤ z
    out x y z = simp expand

-- and so do coefficients c that are within e of the exact sums, as nearly as they are: the errors of the 2 N - 1 terms, and the circle's
module _ (L : ℕ) (x : Samples) (c : ℕ → ℤ) (n : ℕ) {X e : ℕ} (l : L ≤ top_level) (hn : n < 2 ^ L) (b : (i : ℕ) → i < 2 ^ L → x i within X)
    (h : (k : ℕ) → k < 2 ^ L → c k *ℤ int B -ℤ exact_dct (2 ^ L) x k within e) where
  abbrev E : ℕ → ℤ
  E = exact_dct (2 ^ L) x

  error_is : exact_inverse (2 ^ L) (λ k. c k *ℤ int B -ℤ E k) n ≡ exact_inverse (2 ^ L) c n *ℤ int B -ℤ exact_inverse (2 ^ L) E n
  error_is =
      moved (exact_inverse (2 ^ L) E n) (exact_inverse (2 ^ L) (λ k. c k *ℤ int B -ℤ E k) n)
      ∙ ap (λ z. z -ℤ exact_inverse (2 ^ L) E n)
      (sym
      (inverse_scale (2 ^ L) c (λ k. E k +ℤ (c k *ℤ int B -ℤ E k)) (int B) n (omega arith) (λ k i. split (c k *ℤ int B) (E k))
      ∙ inverse_add (2 ^ L) E (λ k. c k *ℤ int B -ℤ E k) n))
    where
      moved : (u v : ℤ) → v ≡ u +ℤ v -ℤ u
      moved u v = rw (parts u, parts v) (simp diff (omega near))

      split : (u v : ℤ) → u ≡ v +ℤ (u -ℤ v)
      split u v = rw (parts u, parts v) (simp diff (omega near))

  pub inverse_of_near : exact_inverse (2 ^ L) c n -ℤ x n *ℤ (int (2 ^ L) *ℤ int B)
      within (2 * 2 ^ L - 1) * e + 2 ^ L * (X * (2 ^ L * (2 * addition_error)))
  inverse_of_near =
      within_cancel B (lit< tt)
      (within_le
      (within_eq (out (exact_inverse (2 ^ L) c n) (x n) (int (2 ^ L)) (int B))
      (within_trans (exact_inverse (2 ^ L) c n *ℤ int B) (exact_inverse (2 ^ L) E n) (x n *ℤ (int (2 ^ L) *ℤ (int B *ℤ int B)))
      (within_eq error_is (inverse_size (2 ^ L) (λ k. c k *ℤ int B -ℤ E k) n (omega arith) h))
      (inverse_near L x n l hn b)))
      (shared B (2 * 2 ^ L - 1) e (2 ^ L) X addition_error))
    where
      out : (u x n b : ℤ) → u *ℤ b -ℤ x *ℤ (n *ℤ (b *ℤ b)) ≡ b *ℤ (u -ℤ x *ℤ (n *ℤ b))
      out u x n b = simp expand

      shared : (b m e n x a : ℕ) → m * (e * b) + n * (x * (n * (2 * (a * b)))) ≤ b * (m * e + n * (x * (n * (2 * a))))
      shared b m e n x a = omega arith

pub inverts : (L : ℕ) (x : Samples) (X n : ℕ) → L ≤ top_level → n < 2 ^ L → ((i : ℕ) → i < 2 ^ L → nat_abs (x i) ≤ X)
    → Inverts (2 ^ L) x X n
unfolding int
inverts L x X n l hn b = record { near = within_size (inverse_near L x n l hn (λ i h. size_within (x i) (b i h))) }
