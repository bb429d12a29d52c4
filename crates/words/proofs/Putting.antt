-- Bytes put into a lent buffer (`Put` of specs/Put): none, one, some behind others, and texts that are joined. Assumes nothing.
use mathlib.Core.Path.{◌≡◌, refl, sym, ap₂, ◌∙◌}
use mathlib.Core.List.{List, [], ◌∷◌, ◌++◌, append-nil, append_assoc}
use Prim.Native.Nat.{ℕ, zero, suc, ◌+◌, ◌*◌, ◌≤◌, ◌<◌}
use native.Mathlib.Omega.{arith}
use native.Mathlib.Nat.{mul-suc}
use native.Mathlib.Numerals.{add-one}
use lib.ListN.{length, drop, set, length-append, length-set}
use lib.Seq.{length-take-le, take-suc-set, drop-set-lt, drop-drop}
use Rattle.words.specs.Put.{Put, joined}

pub put_none : {page : List ℕ} {at : ℕ} → at ≤ length page → Put page at [] at page
put_none {page} {at} h =
    record { next_is = omega arith; front = sym (append-nil _); rest = refl; len = refl; room = h; counts = sym (length-take-le at page h) }

pub put_byte : (page : List ℕ) (at byte : ℕ) → at < length page → Put page at (byte ∷ []) (at + 1) (set page at byte)
put_byte page at byte h =
    record {
      next_is = refl;
      front = rw (add-one, take-suc-set page at byte h);
      rest = drop-set-lt (at + 1) page at byte (omega arith);
      len = length-set page at byte;
      room = omega (arith, length-set page at byte);
      counts = sym (length-take-le (at + 1) (set page at byte) (omega (arith, length-set page at byte)));
    }

-- the rest behind a place is the rest behind a later one
rest_later : (a b : List ℕ) (r m q : ℕ) → q ≡ r + m → drop r b ≡ drop r a → drop q b ≡ drop q a
rest_later a b r m q h e = rw (h, ← drop-drop m r b, ← drop-drop m r a, e)

infixl 40 ◌then◌
pub ◌then◌ : {a b c s t : List ℕ} {at r q : ℕ} → Put a at s r b → Put b r t q c → Put a at (s ++ t) q c
◌then◌ {a} {b} {c} {s} {t} {at} {r} {q} p k =
    record {
      next_is = omega (arith, length-append s t, p.next_is, k.next_is);
      front = k.front ∙ rw (p.front, append_assoc);
      rest = k.rest ∙ rest_later a b r (length t) q k.next_is p.rest;
      len = k.len ∙ p.len;
      room = k.room;
      counts = k.counts;
    }

-- ---- texts one behind another: none put yet, and one more
module _ (f : ℕ → List ℕ) {page : List ℕ} {at : ℕ} where
  pub joined_none : at ≤ length page → Put page at (joined f 0) at page
  unfolding joined
  joined_none h = put_none h

  pub joined_more : (n : ℕ) {r q : ℕ} {page₁ page₂ : List ℕ} → Put page at (joined f n) r page₁ → Put page₁ r (f n) q page₂
      → Put page at (joined f (n + 1)) q page₂
  unfolding joined
  joined_more n p k = rw add-one (p then k)

-- equal texts are joined to equal texts
pub joined_same : (f g : ℕ → List ℕ) (n : ℕ) → ((i : ℕ) → i < n → f i ≡ g i) → joined f n ≡ joined g n
unfolding joined
joined_same f g zero e = refl
joined_same f g (suc n) e = ap₂ ◌++◌ (joined_same f g n (λ i h. e i (omega arith))) (e n (omega arith))

-- texts of w bytes each
pub joined_length : (f : ℕ → List ℕ) (w n : ℕ) → ((i : ℕ) → i < n → length (f i) ≡ w) → length (joined f n) ≡ w * n
unfolding joined
joined_length f w zero e = omega arith
joined_length f w (suc n) e =
    omega (arith, length-append (joined f n) (f n), joined_length f w n (λ i h. e i (omega arith)), e n (omega arith), mul-suc w n)
