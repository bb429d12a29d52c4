-- The rules of a mark on the words of buffers, and on what these agree with.
-- Assumes nothing.
use mathlib.Core.Path.{◌≡◌, refl, sym, ap, ap₂, ◌∙◌}
use mathlib.Core.Logic.{⊎_elim}
use mathlib.Core.Bool.{Bool, true, false, not, cond, ◌&&◌, ◌||◌}
use mathlib.Core.List.{List, [], ◌∷◌}
use Prim.Native.Nat.{ℕ, zero, suc, ◌+◌, ◌-◌, ◌/◌, ◌≤◌, ◌<◌}
use native.Mathlib.Nat.{add-suc, add-zero}
use native.Mathlib.Omega.{arith}
use lib.Dec.{leb}
use lib.IntN.{ℤ, pos, nat_abs}
use lib.ListN.{length, take, drop, length-drop}
use lib.Seq.{get_or-take, get_or-drop, length-take-le}
use lib.Signed.{le_z}
use borrow.Author.Tests.{le-leb, lt-leb}
use Rattle.std.specs.List.{list_all}
use Rattle.whole.proofs.Cases.{le_or_lt}
use Rattle.words.specs.Words.{Samples, word}
use Rattle.refusals.specs.Refusals.{at_most, block}
use Rattle.spectra.specs.declared.marks.Mark.TheVariants.{Flat, Clipped, Plain}
use Rattle.spectra.specs.Marks.{size, all, some, clipped, mark}

-- ---- rows of tests that agree
all_same : (p q : ℕ → Bool) (i j d : ℕ) → ((k : ℕ) → k < d → p (i + k) ≡ q (j + k)) → all p i d ≡ all q j d
unfolding all
all_same p q i j zero h = refl
all_same p q i j (suc d) h =
    ap₂ ◌&&◌ (ap p (omega arith) ∙ h 0 (omega arith) ∙ ap q (omega arith))
    (all_same p q (suc i) (suc j) d (λ k l. ap p (omega arith) ∙ h (suc k) (omega arith) ∙ ap q (omega arith)))

-- ---- all words are at most m in size
abbrev within : (m : ℕ) → Samples → ℕ → Bool
within m x k = le_z (size (x k)) (pos m)

all_words : (m : ℕ) (ws : List ℤ) → list_all (at_most m) ws ≡ all (within m (word ws)) 0 (length ws)
unfolding all
all_words m [] = refl
all_words m (w ∷ ws) =
    ap (λ b. at_most m w && b)
    (all_words m ws ∙ all_same (within m (word ws)) (within m (word (w ∷ ws))) 0 1 (length ws)
    (λ k l. ap (λ v. leb (nat_abs v) m) (tail w ws k)))
  where
    tail : (w : ℤ) (ws : List ℤ) (k : ℕ) → word ws (0 + k) ≡ word (w ∷ ws) (1 + k)
    tail w ws k = ap (word ws) {x = 0 + k} {y = k} (omega arith) ∙ ap (word (w ∷ ws)) {x = suc k} {y = 1 + k} (omega arith)

-- those of a part, of the n words from s on
all_part : (m s n : ℕ) {l : ℕ} (ws : List ℤ) → l ≡ n → s + n ≤ length ws
    → list_all (at_most m) (take l (drop s ws)) ≡ all (λ k. le_z (size (word ws k)) (pos m)) s n
all_part m s n {l} ws is h =
    let long : length (take l (drop s ws)) ≡ n = length-take-le l (drop s ws) (omega (arith, length-drop s ws)) ∙ is in
    all_words m (take l (drop s ws))
    ∙ ap (all (within m (word (take l (drop s ws)))) 0) long
    ∙ all_same (within m (word (take l (drop s ws)))) (within m (word ws)) 0 s n
    (λ k h. ap (λ v. leb (nat_abs v) m) (there k (omega arith)))
  where
    there : (k : ℕ) → k < l → word (take l (drop s ws)) (0 + k) ≡ word ws (s + k)
    there k h =
        ap (word (take l (drop s ws))) {x = 0 + k} {y = k} (omega arith)
        ∙ get_or-take l (drop s ws) k (pos 0) h
        ∙ get_or-drop s ws k (pos 0)

-- ---- a word is at least m + 1 in size where not all are at most m
at_least : (m n : ℕ) → leb (suc m) n ≡ not (leb n m)
at_least m n = ⊎_elim
    (λ h. rw (lt-leb (suc m) n (omega arith), le-leb n m h))
    (λ h. rw (le-leb (suc m) n (omega arith), lt-leb n m h))
    (le_or_lt n m)

not_both : (a b : Bool) → (not a || not b) ≡ not (a && b)
not_both true b = refl
not_both false b = refl

some_by : (m s : ℕ) (x : Samples) (i d : ℕ) → some (λ n. le_z (pos (suc m)) (size (x (s + n)))) i d ≡ not (all (within m x) (s + i) d)
unfolding all some
some_by m s x i zero = refl
some_by m s x i (suc d) =
    rw (at_least m (nat_abs (x (s + i))), some_by m s x (suc i) d, add-suc)
    (not_both (at_most m (x (s + i))) (all (within m x) (suc (s + i)) d))

clipped_by : (level s n : ℕ) {l : ℕ} (r : List ℤ) → 1 ≤ level → l ≡ n → s + n ≤ length r
    → not (list_all (at_most (level - 1)) (take l (drop s r))) ≡ clipped (pos level) n (block r s)
clipped_by zero s n r h is inside = absurd (omega arith)
clipped_by (suc m) s n r h is inside =
    let same : suc m - 1 ≡ m = omega arith in
    rw same (ap not (all_part m s n r is inside) ∙ rw add-zero at (sym (some_by m s (word r) 0 n)))

-- ---- the mark by the words of the block and the coefficients from k = 1 on
pub mark_is : (f c : ℕ) (r : List ℤ) (start N : ℕ) (cosine sine : List ℤ) → 1 ≤ c → start + N ≤ length r
    → N / 2 + 1 ≤ length cosine → N / 2 + 1 ≤ length sine
    → mark (pos f) (pos c) N (block r start) (word cosine) (word sine)
    ≡ cond (list_all (at_most f) (take (N / 2 + 1 - 1) (drop 1 cosine)) && list_all (at_most f) (take (N / 2 + 1 - 1) (drop 1 sine))) Flat
    (cond (not (list_all (at_most (c - 1)) (take (start + N - start) (drop start r)))) Clipped Plain)
unfolding mark
mark_is f c r start N cosine sine some inside long-c long-s =
    rw (
      all_part f 1 (N / 2) {l = N / 2 + 1 - 1} cosine (omega arith) (omega arith),
      all_part f 1 (N / 2) {l = N / 2 + 1 - 1} sine (omega arith) (omega arith),
      clipped_by c start N {l = start + N - start} r some (omega arith) inside,
    )

-- ---- of the coefficients the mark takes those from k = 1 to N / 2 alone
module _ (flat_limit clip_level : ℤ) (N : ℕ) (x : Samples) {cosine sine cosine' sine' : Samples} where
  pub mark_same : ((k : ℕ) → k < N / 2 + 1 → cosine k ≡ cosine' k) → ((k : ℕ) → k < N / 2 + 1 → sine k ≡ sine' k)
      → mark flat_limit clip_level N x cosine sine ≡ mark flat_limit clip_level N x cosine' sine'
  unfolding mark
  mark_same c s = rw (same c, same s)
    where
      same : {y z : Samples} → ((k : ℕ) → k < N / 2 + 1 → y k ≡ z k)
          → all (λ k. le_z (size (y k)) flat_limit) 1 (N / 2) ≡ all (λ k. le_z (size (z k)) flat_limit) 1 (N / 2)
      same h = all_same _ _ 1 1 (N / 2) (λ k l. ap (λ v. le_z (size v) flat_limit) (h (1 + k) (omega arith)))
