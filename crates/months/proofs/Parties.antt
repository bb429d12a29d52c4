-- The two parties, and their accounts in a month: an account is lent by itself, and what is left in it leaves all other words as they were.
-- Assumes nothing.
use mathlib.Core.Path.{◌≡◌, refl, sym, ap, subst, ◌∙◌}
use mathlib.Core.Bool.{Bool, true, false, ◌||◌}
use mathlib.Core.List.{List}
use mathlib.Core.Logic.{◌⊎◌, inl, inr, ⊎_elim}
use Prim.Native.Nat.{ℕ, zero, suc, ◌+◌, ◌-◌, ◌≤◌, ◌<◌}
use native.Mathlib.Omega.{arith}
use lib.Dec.{eqb}
use lib.IntN.{ℤ, pos}
use lib.ListN.{length, take, drop}
use lib.Seq.{ext_get_or}
use borrow.Author.Tests.{eqb-true, not-false}
use Rattle.std.specs.Prelude.{Result}
use Rattle.whole.proofs.Cases.{le_or_lt}
use Rattle.words.specs.Words.{word}
use Rattle.words.proofs.Parts.{between_at, between_length, restored, restored_length, restored_low, restored_part, restored_beside}
use Rattle.counts.specs.declared.tally.Tally.{Tally}
use Rattle.refusals.specs.declared.refusal.Refusal.{Refusal}
use Rattle.refusals.specs.Answers.{answered}
use Rattle.refusals.proofs.Promises.{accepted_or_not}
use Rattle.spectra.specs.Promises.{Buffers}
use Rattle.months.specs.declared.party.Party.{Party}
use Rattle.months.specs.declared.party.Party.TheVariants.{First, Second}
use Rattle.months.specs.Accounts.{account_words}
use Rattle.months.specs.Months.{month_words, unknown_party, account_at, account, OthersStay}
use Rattle.months.specs.Parties.{number_of}
use Rattle.months.specs.Promises.{Given, AccountPromise, ForParty}

-- ---- a party that is not unknown
pub known_party : (party : Party) → unknown_party (number_of party) ≡ false
known_party First = refl
known_party Second = refl

one_or_two : (a b : Bool) → (a || b) ≡ true → (a ≡ true) ⊎ (b ≡ true)
one_or_two true b e = inl refl
one_or_two false b e = inr e

pub known : (p : ℕ) → unknown_party p ≡ false → (1 ≤ p) × (p ≤ 2)
known p h = ⊎_elim
    (λ e. let one = eqb-true p 1 e in (omega arith, omega arith))
    (λ e. let two = eqb-true p 2 e in (omega arith, omega arith))
    (one_or_two (eqb p 1) (eqb p 2) (not-false _ h))

pub account_fits : (p : ℕ) → unknown_party p ≡ false → account_at p + account_words ≤ month_words
account_fits p h = omega (arith, known p h)

apart : (p q k : ℕ) → unknown_party p ≡ false → unknown_party q ≡ false → (q ≡ p → ⊥) → k < account_words
    → (account_at q + k < account_at p) ⊎ (account_at p + account_words ≤ account_at q + k)
apart p q k h g ne l =
    let of-p = known p h in
    let of-q = known q g in
    ⊎_elim (λ o. inr (omega arith)) (λ o. inl (omega arith)) (le_or_lt p q)

pub account_word : (p : ℕ) (month : List ℤ) (k : ℕ) → k < account_words → word (account p month) k ≡ word month (account_at p + k)
unfolding account
account_word p month k l = between_at (account_at p) account_words month k l

-- a month is its mark and its two accounts
module _ (month month' : List ℤ) (len : length month' ≡ length month) (mark : word month' 0 ≡ word month 0)
    (accounts : (q : ℕ) → unknown_party q ≡ false → account q month' ≡ account q month) where
  in_account : (q : ℕ) → unknown_party q ≡ false → (k : ℕ) → k < account_words →
      word month' (account_at q + k) ≡ word month (account_at q + k)
  in_account q g k l =
      sym (account_word q month' k l) ∙ ap (λ a. word a k) (accounts q g) ∙ account_word q month k l

  at : (k : ℕ) → k < month_words → word month' k ≡ word month k
  at zero l = mark
  at (suc k) l = ⊎_elim
      (λ o. let place : 1028 + (k - 1027) ≡ suc k = omega arith in rw place at (in_account 2 refl (k - 1027) (omega arith)))
      (λ o. let place : 1 + k ≡ suc k = omega arith in rw place at (in_account 1 refl k o))
      (le_or_lt account_words k)

  pub whole : length month ≡ month_words → month' ≡ month
  whole long = ext_get_or (pos 0) month' month len (λ k l. at k (omega (arith, l, len, long)))

-- an account as it is lent, from place to place
pub lent_account : (p : ℕ) (month : List ℤ) {from to : ℕ} → from ≡ account_at p → to ≡ from + account_words
    → take (to - from) (drop from month) ≡ account p month
unfolding account
lent_account p month {from} {to} at e =
    let m : to - from ≡ account_words = omega arith in
    ap (λ n. take n (drop from month)) m ∙ ap (λ n. take account_words (drop n month)) at

module _ (p : ℕ) (month : List ℤ) (long : length month ≡ month_words) (h : unknown_party p ≡ false) where
  fits : account_at p + account_words ≤ length month
  fits = rw long (account_fits p h)

  pub account_length : length (account p month) ≡ account_words
  unfolding account
  account_length = between_length (account_at p) account_words month fits

  -- ---- when the account has become ys
  module _ (ys : List ℤ) (e : length ys ≡ account_words) where
    abbrev after : List ℤ
    after = restored (account_at p) account_words month ys

    pub own_account : account p after ≡ ys
    unfolding account
    own_account = restored_part (account_at p) account_words month fits ys e

    other_account : (q : ℕ) → unknown_party q ≡ false → (q ≡ p → ⊥) → account q after ≡ account q month
    unfolding account
    other_account q g ne =
        restored_beside (account_at p) account_words month fits ys e (account_at q) account_words (rw long (account_fits q g))
        (λ k l. apart p q k h g ne l)

    pub others_stay : OthersStay p month after
    others_stay = record {
      mark = restored_low (account_at p) account_words month fits ys e 0 (omega arith);
      accounts = other_account;
      len = restored_length (account_at p) account_words month fits ys e;
    }

-- ---- a call on an account that is lent
module _ (p : ℕ) (g : Given) (month account' : List ℤ) (lent' : Buffers) (answer : Result Tally Refusal)
    (long : length month ≡ month_words) (h : unknown_party p ≡ false) where
  -- the account keeps its words
  same_words : AccountPromise g (account p month) account' lent' answer → length account' ≡ account_words
  same_words q =
      ⊎_elim (λ e. (q.done e).words.len) (λ e. ap length (q.unchanged e).0) (accepted_or_not (answered answer))
      ∙ account_length p month long h

  by_account : AccountPromise g (account p month) account' lent' answer
      → ForParty p g month (restored (account_at p) account_words month account') lent' answer
  by_account q = record {
    own = rw (own_account p month long h account' (same_words q)) q;
    others = others_stay p month long h account' (same_words q);
  }

  pub for_party : {from to : ℕ} → from ≡ account_at p → to ≡ from + account_words
      → AccountPromise g (take (to - from) (drop from month)) account' lent' answer
      → ForParty p g month (restored from (to - from) month account') lent' answer
  for_party {from} {to} at e q =
      let m : account_words ≡ to - from = omega arith in
      subst (λ n. ForParty p g month (restored n (to - from) month account') lent' answer) (sym at)
      (subst (λ n. ForParty p g month (restored (account_at p) n month account') lent' answer) m
      (by_account (rw (lent_account p month at e) at q)))
