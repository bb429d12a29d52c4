-- Loops that write the m elements from place b on, from the front and from the back (`Ends`), up to all of them (`WrittenOf` of
-- specs/Words).
--     ends-none       before the first store
--     ends-front      one store more at the front; `ends_back` at the back
--     ends-turn       one store more at each end
--     ends-both       one element more at each end, which a call has written
--     ends_more       one element more at the front, which a call has written
--     ends-pass       one element more at the front, which held what it is to hold
--     ends-all        when all are stored
-- And of what is written:
--     front, beyond   by place, where b is 0
--     written_one     a run of one element
--     written-more    one element more behind the run
--     written_same    the same elements by another name
--     written-alike   it determines what is left
-- And of two stores by place:
--     two-put         what they put
--     ends-two        when they put the elements 0 and n / 2, and all others are stored
-- Assumes nothing.
use mathlib.Core.Path.{◌≡◌, refl, sym, ◌∙◌, ap}
use mathlib.Core.List.{List, [], ◌∷◌}
use mathlib.Core.Logic.{⊎_elim}
use Prim.Native.Nat.{ℕ, zero, suc, ◌+◌, ◌-◌, ◌*◌, ◌/◌, ◌≤◌, ◌<◌}
use native.Mathlib.Omega.{arith}
use lib.IntN.{ℤ, pos}
use lib.ListN.{length, get_or, set, length-set}
use lib.Seq.{get_or-set_same, get_or-set_other, ext_get_or}
use borrow.Author.Count.{below_none, below_more}
use Rattle.whole.proofs.Cases.{le_or_lt, same_or_not}
use Rattle.words.specs.Words.{word, WrittenOf, Written, TwoPut}

-- of the m elements from b on, the first a and the last c now hold f; those between and all others are as before, and the length stays
pub record Ends {A : Type 0} (d : A) (b a c m : ℕ) (f : ℕ → A) (before after : List A) : Type 0 where
  pub front : (k : ℕ) → k < a → get_or after (b + k) d ≡ f k
  pub back : (k : ℕ) → k < m → m ≤ k + c → get_or after (b + k) d ≡ f k
  pub between : (k : ℕ) → a ≤ k → k + c < m → get_or after (b + k) d ≡ get_or before (b + k) d
  pub low : (k : ℕ) → k < b → get_or after k d ≡ get_or before k d
  pub high : (k : ℕ) → b + m ≤ k → get_or after k d ≡ get_or before k d
  pub len : length after ≡ length before

pub ends_none : {A : Type 0} {d : A} {b m : ℕ} {f : ℕ → A} {words : List A} → Ends d b 0 0 m f words words
ends_none = record {
  front = below_none _;
  back = λ k h l. absurd (omega arith);
  between = λ k h l. refl;
  low = λ k h. refl;
  high = λ k h. refl;
  len = refl;
}

-- one element more at the front, which a call has written
pub ends_more : {A : Type 0} {d : A} {b a c m i : ℕ} {f g : ℕ → A} {before between after : List A}
    → (i ≡ b + a) × (a + c < m) → g 0 ≡ f a → Ends d b a c m f before between → WrittenOf d i 1 g between after →
    Ends d b (a + 1) c m f before after
ends_more {d = d} {b = b} {a = a} {i = i} {after = after} h e p w = record {
  front = below_more _ _
      (λ k l. w.low (b + k) (omega arith) ∙ p.front k l)
      (ap (λ j. get_or after j d) {x = b + a} {y = i + 0} (omega arith) ∙ w.new 0 (omega arith) ∙ e);
  back = λ k l o. w.high (b + k) (omega arith) ∙ p.back k l o;
  between = λ k l o. w.high (b + k) (omega arith) ∙ p.between k (omega arith) o;
  low = λ k l. w.low k (omega arith) ∙ p.low k l;
  high = λ k l. w.high k (omega arith) ∙ p.high k l;
  len = w.len ∙ p.len;
}

module _ {A : Type 0} {d : A} {b a c m : ℕ} {f : ℕ → A} {before after : List A} (p : Ends d b a c m f before after) where
  pub ends_all : m ≤ a + c → WrittenOf d b m f before after
  ends_all h = record {
    new = λ k l. ⊎_elim (λ o. p.back k l (omega arith)) (p.front k) (le_or_lt a k);
    low = p.low;
    high = p.high;
    len = p.len;
  }

  pub ends_pass : a + c < m → get_or before (b + a) d ≡ f a → Ends d b (a + 1) c m f before after
  ends_pass h e = record {
    front = below_more _ _ p.front (p.between a (omega arith) h ∙ e);
    back = p.back;
    between = λ k l o. p.between k (omega arith) o;
    low = p.low;
    high = p.high;
    len = p.len;
  }

  module _ (i : ℕ) (x : A) where
    stored : i < length before → get_or (set after i x) i d ≡ x
    stored h = get_or-set_same after i x d (omega (arith, p.len))

    kept : (k : ℕ) → (k ≡ i → ⊥) → get_or (set after i x) k d ≡ get_or after k d
    kept k h = get_or-set_other after i k x d h

  -- the place of the store is i, where b + a, or b + m less c, is meant
  pub ends_front : {x : A} {i : ℕ} → (i ≡ b + a) × (a + c < m) × (b + m ≤ length before) → x ≡ f a
      → Ends d b (a + 1) c m f before (set after i x)
  ends_front {x} {i} h e = record {
    front = below_more _ _
        (λ k l. kept i x (b + k) (λ e. omega arith) ∙ p.front k l)
        (ap (λ j. get_or (set after i x) j d) (sym h.0) ∙ stored i x (omega arith) ∙ e);
    back = λ k l o. kept i x (b + k) (λ e. omega arith) ∙ p.back k l o;
    between = λ k l o. kept i x (b + k) (λ e. omega arith) ∙ p.between k (omega arith) o;
    low = λ k l. kept i x k (λ e. omega arith) ∙ p.low k l;
    high = λ k l. kept i x k (λ e. omega arith) ∙ p.high k l;
    len = length-set after i x ∙ p.len;
  }

  pub ends_back : {x : A} {i c' : ℕ} (j : ℕ) → (i ≡ b + j) × (a ≤ j) × (b + m ≤ length before) × (j + c' ≡ m) × (c' ≡ c + 1) → x ≡ f j
      → Ends d b a c' m f before (set after i x)
  ends_back {x} {i} j h e = record {
    front = λ k l. kept i x (b + k) (λ e. omega arith) ∙ p.front k l;
    back = λ k l o. ⊎_elim
        (λ g. kept i x (b + k) (λ e. omega arith) ∙ p.back k l g)
        (λ g. let here : b + k ≡ i = omega arith in let same : k ≡ j = omega arith in rw (here, same) (stored i x (omega arith) ∙ e))
        (le_or_lt m (k + c));
    between = λ k l o. kept i x (b + k) (λ e. omega arith) ∙ p.between k l (omega arith);
    low = λ k l. kept i x k (λ e. omega arith) ∙ p.low k l;
    high = λ k l. kept i x k (λ e. omega arith) ∙ p.high k l;
    len = length-set after i x ∙ p.len;
  }

-- one element more at each end, at the places p and q, which a call has written
pub ends_both : {A : Type 0} {d : A} {b a c m : ℕ} {f : ℕ → A} {before between after : List A} → Ends d b a c m f before between
    → {p q a' c' : ℕ} (j : ℕ) → (a' ≡ a + 1) × (c' ≡ c + 1) × (p ≡ b + a) × (q ≡ b + j) × (a < j) × (j + c' ≡ m)
    → length after ≡ length between → ((k : ℕ) → (k ≡ p → ⊥) → (k ≡ q → ⊥) → get_or after k d ≡ get_or between k d)
    → get_or after p d ≡ f a → get_or after q d ≡ f j → Ends d b a' c' m f before after
ends_both {d = d} {b = b} {a = a} {c = c} {m = m} {f = f} {after = after} e {p} {q} {a'} {c'} j h len others first last = record {
  front = λ k l. ⊎_elim
      (λ o. let here : b + k ≡ p = omega arith in let same : k ≡ a = omega arith in rw (here, same) first)
      (λ o. others (b + k) (omega arith) (omega arith) ∙ e.front k o)
      (le_or_lt a k);
  back = λ k l o. ⊎_elim
      (λ g. others (b + k) (omega arith) (omega arith) ∙ e.back k l g)
      (λ g. let here : b + k ≡ q = omega arith in let same : k ≡ j = omega arith in rw (here, same) last)
      (le_or_lt m (k + c));
  between = λ k l o. others (b + k) (omega arith) (omega arith) ∙ e.between k (omega arith) (omega arith);
  low = λ k l. others k (omega arith) (omega arith) ∙ e.low k l;
  high = λ k l. others k (omega arith) (omega arith) ∙ e.high k l;
  len = len ∙ e.len;
}

-- a turn that stores at both ends
pub ends_turn : {A : Type 0} {d : A} {b a c m : ℕ} {f : ℕ → A} {before after : List A} → Ends d b a c m f before after →
    {x y : A} {i i' a' c' : ℕ} (j : ℕ)
    → (a' ≡ a + 1) × (c' ≡ c + 1) × (i ≡ b + a) × (i' ≡ b + j) × (a < j) × (j + c' ≡ m) × (b + m ≤ length before) → x ≡ f a → y ≡ f j
    → Ends d b a' c' m f before (set (set after i x) i' y)
ends_turn p j h e g = rw h.0 (ends_back (ends_front p (omega arith) e) j (omega arith) g)

-- a run of one element
pub written_one : {A : Type 0} {d : A} {b : ℕ} {f : ℕ → A} {words : List A} {v : A} → b < length words → v ≡ f 0 →
    WrittenOf d b 1 f words (set words b v)
written_one h e = ends_all (ends_front ends_none (omega arith) e) (omega arith)

module _ {A : Type 0} {d : A} {b m : ℕ} {f : ℕ → A} {before after : List A} (w : WrittenOf d b m f before after) where
  pub written_same : {n : ℕ} {g : ℕ → A} → n ≡ m → ((k : ℕ) → k < n → f k ≡ g k) → WrittenOf d b n g before after
  written_same h e = record {
    new = λ k l. w.new k (omega arith) ∙ e k l;
    low = w.low;
    high = λ k l. w.high k (omega arith);
    len = w.len;
  }

  -- one element more behind the run
  pub written_more : {x : A} {i : ℕ} → (i ≡ b + m) × (i < length before) → x ≡ f m → WrittenOf d b (m + 1) f before (set after i x)
  written_more {x} {i} h e = record {
    new = below_more _ _
        (λ k l. other (b + k) (λ e. omega arith) ∙ w.new k l)
        (ap (λ j. get_or (set after i x) j d) (sym h.0) ∙ get_or-set_same after i x d (omega (arith, w.len)) ∙ e);
    low = λ k l. other k (λ e. omega arith) ∙ w.low k l;
    high = λ k l. other k (λ e. omega arith) ∙ w.high k (omega arith);
    len = length-set after i x ∙ w.len;
  }
    where
      other : (k : ℕ) → (k ≡ i → ⊥) → get_or (set after i x) k d ≡ get_or after k d
      other k ne = get_or-set_other after i k x d ne

-- what is written, from the same words twice
pub written_alike : {A : Type 0} {d : A} {b m : ℕ} {f : ℕ → A} {before after other : List A} → WrittenOf d b m f before after
    → WrittenOf d b m f before other → after ≡ other
written_alike {d = d} {b = b} {m = m} {before = before} {after = after} {other = other} w v =
    ext_get_or d after other (w.len ∙ sym v.len) (λ k h. ⊎_elim (not_below k) (λ l. w.low k l ∙ sym (v.low k l)) (le_or_lt b k))
  where
    at : (k : ℕ) → k < m → get_or after (b + k) d ≡ get_or other (b + k) d
    at k l = w.new k l ∙ sym (v.new k l)

    not_below : (k : ℕ) → b ≤ k → get_or after k d ≡ get_or other k d
    not_below k l =
        let place : b + (k - b) ≡ k = omega arith in
        ⊎_elim (λ o. w.high k o ∙ sym (v.high k o)) (λ o. rw place at (at (k - b) (omega arith))) (le_or_lt (b + m) k)

module _ {A : Type 0} {d : A} {m : ℕ} {f : ℕ → A} {before after : List A} (w : WrittenOf d 0 m f before after) where
  pub front : (k : ℕ) → k < m → get_or after k d ≡ f k
  front k h = ap (λ j. get_or after j d) {x = k} {y = 0 + k} (omega arith) ∙ w.new k h

  pub beyond : (k : ℕ) → m ≤ k → get_or after k d ≡ get_or before k d
  beyond k h = w.high k (omega arith)

-- past its end a list has no element
pub past : {A : Type 0} (d : A) (w : List A) (k : ℕ) → length w ≤ k → get_or w k d ≡ d
past d [] k h = refl
past d (x ∷ w) zero h = elim h [ ]
past d (x ∷ w) (suc k) h = past d w k (omega (arith, h))

-- two stores
pub two_put : {i j : ℕ} {u v u' v' : ℤ} {out : List ℤ} → (i < length out) × (j < length out) → (i ≡ j → u ≡ v) → u' ≡ u → v' ≡ v
    → TwoPut i j u v out (set (set out i u') j v')
two_put {i} {j} {u} {v} {u'} {v'} {out} h same e d = record {
  first = ⊎_elim
      (λ one. rw one (get_or-set_same (set out j u') j v' (pos 0) (simp length-set h.1)) ∙ d ∙ sym (same one))
      (λ two. get_or-set_other (set out i u') j i v' (pos 0) two ∙ get_or-set_same out i u' (pos 0) h.0 ∙ e)
      (same_or_not i j);
  second = get_or-set_same (set out i u') j v' (pos 0) (simp length-set h.1) ∙ d;
  others = λ k p q. get_or-set_other (set out i u') j k v' (pos 0) q ∙ get_or-set_other out i k u' (pos 0) p;
  len = simp length-set;
}

-- a loop from both ends has come to the middle, and two stores put what it has left, the elements 0 and n / 2
pub ends_two : {n a : ℕ} {f : ℕ → ℤ} {u v : ℤ} {before between after : List ℤ} → (1 ≤ n) × (a ≡ n - n / 2 - 1)
    → ((n ≡ 1 → ⊥) → 2 * (n / 2) ≡ n) → Ends (pos 0) 1 a a (n - 1) (λ i. f (1 + i)) before between → TwoPut 0 (n / 2) u v between after
    → u ≡ f 0 → v ≡ f (n / 2) → Written 0 n f before after
ends_two {n} {a} {f} {u} {v} {before} {between} {after} h whole run e first half = record {
  new = λ k l. at k l;
  low = λ k l. absurd (omega arith);
  high = λ k l. e.others k (omega arith) (omega arith) ∙ run.high k (omega arith);
  len = e.len ∙ run.len;
}
  where
    other : (k : ℕ) → k < n → (k ≡ 0 → ⊥) → (k ≡ n / 2 → ⊥) → word after k ≡ f k
    other k l z m =
        let even = whole (omega arith) in
        let place : 1 + (k - 1) ≡ k = omega arith in
        e.others k z m
        ∙ rw place at (⊎_elim {C = word between (1 + (k - 1)) ≡ f (1 + (k - 1))} (λ g. run.back (k - 1) (omega arith) (omega arith))
        (run.front (k - 1)) (le_or_lt a (k - 1)))

    at : (k : ℕ) → k < n → word after (0 + k) ≡ f k
    at k l =
        let here : 0 + k ≡ k = omega arith in
        rw here (⊎_elim
        (λ zeroth. rw zeroth (e.first ∙ first))
        (λ z. ⊎_elim (λ middle. rw middle (e.second ∙ half)) (other k l z) (same_or_not k (n / 2)))
        (same_or_not k 0))
