-- A block added to an account, word by word: the sums for the cosine coefficients, those for the sine coefficients, and the block number.
-- Assumes nothing.
use mathlib.Core.Path.{◌≡◌, sym, ap, ◌∙◌}
use mathlib.Core.List.{List}
use Prim.Native.Nat.{ℕ, ◌+◌, ◌/◌, ◌≤◌, ◌<◌}
use native.Mathlib.Omega.{arith}
use lib.IntN.{ℤ, pos, ◌+ℤ◌}
use lib.ListN.{length, take, set, length-set}
use lib.Seq.{length-take-le, get_or-take, get_or-set_same, get_or-set_other}
use Rattle.words.specs.Words.{word, Written}
use Rattle.words.proofs.Writing.{written_same}
use Rattle.months.specs.Accounts.{account_words, cosine_sum, sine_sum, plus, BlockAdded}

-- ---- the words with both rows of sums: those of the list c to the cosine's, those of s to the sine's
pub record BothAdded (N : ℕ) (c s account account' : List ℤ) : Type 0 where
  pub number : word account' 0 ≡ word account 0
  pub cosine : (k : ℕ) → k ≤ N / 2 → cosine_sum account' k ≡ plus (cosine_sum account k) (word c k)
  pub sine : (k : ℕ) → k ≤ N / 2 → sine_sum account' k ≡ plus (sine_sum account k) (word s k)
  pub beyond : (k : ℕ) → N / 2 < k → k < 513 → (cosine_sum account' k ≡ cosine_sum account k) × (sine_sum account' k ≡ sine_sum account k)
  pub long : length account ≡ account_words
  pub len : length account' ≡ length account

pub both_added : {N : ℕ} {c s account between account' : List ℤ} → length account ≡ account_words → N ≤ 1024
    → Written 1 (N / 2 + 1) (λ k. plus (word account (1 + k)) (word c k)) account between
    → Written 514 (N / 2 + 1) (λ k. plus (word between (514 + k)) (word s k)) between account'
    → BothAdded N c s account account'
both_added {s = s} long short cosines sines = record {
  number = sines.low 0 (omega arith) ∙ cosines.low 0 (omega arith);
  cosine = λ k h. sines.low (1 + k) (omega arith) ∙ cosines.new k (omega arith);
  sine = λ k h. sines.new k (omega arith) ∙ ap (λ z. plus z (word s k)) (cosines.high (514 + k) (omega arith));
  beyond = λ k h l. (
    sines.low (1 + k) (omega arith) ∙ cosines.high (1 + k) (omega arith),
    sines.high (514 + k) (omega arith) ∙ cosines.high (514 + k) (omega arith),
  );
  long = long;
  len = sines.len ∙ cosines.len;
}

-- the first m of the coefficients, as they are lent
lent_added : {at m : ℕ} (c : List ℤ) {before after : List ℤ} → m ≤ length c
    → Written at (length (take m c)) (λ k. plus (word before (at + k)) (word (take m c) k)) before after
    → Written at m (λ k. plus (word before (at + k)) (word c k)) before after
lent_added {at} {m} c {before} h w =
    written_same w (sym (length-take-le m c h)) (λ k l. ap (plus (word before (at + k))) (get_or-take m c k (pos 0) l))

pub both_lent : {N : ℕ} {c s account between account' : List ℤ} → length account ≡ account_words → N ≤ 1024
    → N / 2 + 1 ≤ length c → N / 2 + 1 ≤ length s
    → Written 1 (length (take (N / 2 + 1) c)) (λ k. plus (word account (1 + k)) (word (take (N / 2 + 1) c) k)) account between
    → Written 514 (length (take (N / 2 + 1) s)) (λ k. plus (word between (514 + k)) (word (take (N / 2 + 1) s) k)) between account'
    → BothAdded N c s account account'
both_lent {c = c} {s = s} long short c-long s-long c-added s-added =
    both_added long short (lent_added c c-long c-added) (lent_added s s-long s-added)

-- ---- and the block number
module _ {N : ℕ} {c s account account' : List ℤ} (b : BothAdded N c s account account') where
  pub block_added : {n : ℤ} → n ≡ word account' 0 +ℤ pos 1 → BlockAdded N (word c) (word s) account (set account' 0 n)
  block_added {n} is =
      let kept : (k : ℕ) → (k ≡ 0 → ⊥) → word (set account' 0 n) k ≡ word account' k = λ k h. get_or-set_other account' 0 k n (pos 0) h in
      record {
        number = get_or-set_same account' 0 n (pos 0) (omega (arith, b.len, b.long)) ∙ is ∙ ap (λ z. z +ℤ pos 1) b.number;
        cosine = λ k h. kept (1 + k) (omega arith) ∙ b.cosine k h;
        sine = λ k h. kept (514 + k) (omega arith) ∙ b.sine k h;
        beyond = λ k h l.
            let (high, higher) = b.beyond k h l in (kept (1 + k) (omega arith) ∙ high, kept (514 + k) (omega arith) ∙ higher);
        len = length-set account' 0 n ∙ b.len;
      }
