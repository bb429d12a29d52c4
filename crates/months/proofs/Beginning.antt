-- In a month that is begun each party's account holds the empty history; so it does where beginning is refused.
-- Assumes nothing.
use mathlib.Core.Path.{◌≡◌, refl, subst, ◌∙◌}
use mathlib.Core.Bool.{true, false, not, cond}
use mathlib.Core.List.{[], ◌∷◌}
use Prim.Native.Nat.{ℕ, zero, suc, ◌+◌, ◌*◌, ◌≤◌, ◌<◌}
use native.Mathlib.Omega.{arith}
use lib.IntN.{pos, ◌+ℤ◌}
use lib.ListN.{replicate}
use mir.Syntax.{w64}
use mir.Val.{SFits, to_z, of_z}
use mir.Facts.{to_z-of_z}
use Rattle.std.specs.Prelude.{Result, ⊤, Ok, Err, IsErrAnd}
use Rattle.whole.proofs.Difference.{int}
use Rattle.whole.proofs.Operations.{natural}
use Rattle.words.specs.Words.{word}
use Rattle.lengths.specs.Block.{is_length}
use Rattle.lengths.proofs.ElevenLengths.{length_le}
use Rattle.refusals.specs.declared.refusal.Refusal.TheVariants.{BadLength}
use Rattle.refusals.specs.declared.refusal.Refusal.{Refusal}
use Rattle.refusals.specs.Refusals.{refused, accepted}
use Rattle.refusals.specs.Answers.{answered}
use Rattle.months.specs.Accounts.{account_words, Holds, sum_over, AllAccepted}
use Rattle.months.specs.Months.{marked, length_of, account, account_at, new_month}
use Rattle.months.specs.Laws.{AlwaysOther}
use Rattle.months.specs.Promises.{BeginPromise}
use Rattle.months.proofs.Lengths.{length_begun, length_small}
use Rattle.months.proofs.Parties.{account_word}

zeros : (n k : ℕ) → word (replicate n (pos 0)) k ≡ pos 0
zeros zero k = refl
zeros (suc n) zero = refl
zeros (suc n) (suc k) = zeros n k

new_word : (N k : ℕ) → 0 < k → word (new_month N) k ≡ pos 0
new_word N zero h = absurd (omega arith)
new_word N (suc k) h = zeros (2 * account_words) k

new_account : (N p k : ℕ) → k < account_words → word (account p (new_month N)) k ≡ pos 0
new_account N p k l = account_word p (new_month N) k l ∙ new_word N (account_at p + k) (omega arith)

empty : (N p n : ℕ) → n ≤ 1024 → Holds n (account p (new_month N)) []
unfolding sum_over AllAccepted
empty N p n small = record {
  blocks = tt;
  number = new_account N p 0 (omega arith);
  at_most = omega arith;
  cosine = λ k h. new_account N p (1 + k) (omega arith);
  sine = λ k h. new_account N p (514 + k) (omega arith);
  beyond = λ k h l. (new_account N p (1 + k) (omega arith), new_account N p (514 + k) (omega arith));
}

pub promise : (N : ℕ) {answer : Result ⊤ Refusal} → answered answer ≡ cond (not (is_length N)) (refused 1) accepted
    → BeginPromise N (new_month N) answer
promise N told = record {
  verdict = told;
  words = refl;
  length = length_begun (is_length N) N (new_month N) refl refl;
  empty = λ p h. empty N p (length_of (new_month N)) (length_small (new_month N));
}

pub not_begun : (N : ℕ) (answer : Result ⊤ Refusal) → is_length N ≡ false → IsErrAnd answer (λ refusal. refusal ≡ BadLength)
    → BeginPromise N (pos 0 ∷ replicate (2 * account_words) (pos 0)) answer
not_begun N (Ok t) e is = absurd is
not_begun N (Err refusal) e is =
    rw is
    (subst (λ m. BeginPromise N m (Err BadLength)) {x = new_month N} {y = pos 0 ∷ replicate (2 * account_words) (pos 0)} (rw e refl)
    (promise N (rw e refl)))

-- the mark as the word that is stored
module _ (N : ℕ) (e : is_length N ≡ true) where
  read : to_z w64 N ≡ pos N
  unfolding int
  read = (natural {w = w64} {n = N} (omega (arith, length_le N e))).is

  mark_fits : SFits w64 (pos (marked 0) +ℤ to_z w64 N)
  mark_fits = rw read (record { sfits = omega (arith, length_le N e) })

  stored : to_z w64 (of_z w64 (pos (marked 0) +ℤ to_z w64 N)) ≡ pos (marked N)
  stored = to_z-of_z mark_fits ∙ rw read refl

  begun_lem : BeginPromise N (to_z w64 (of_z w64 (pos (marked 0) +ℤ to_z w64 N)) ∷ replicate (2 * account_words) (pos 0)) (Ok tt)
  begun_lem =
      rw stored
      (subst (λ m. BeginPromise N m (Ok tt)) {x = new_month N} {y = pos (marked N) ∷ replicate (2 * account_words) (pos 0)} (rw e refl)
      (promise N (rw e refl)))

-- the length that was taken for N
pub begun : {n N : ℕ} → is_length n ≡ true → n ≡ N
    → BeginPromise N (to_z w64 (of_z w64 (pos (marked 0) +ℤ to_z w64 n)) ∷ replicate (2 * account_words) (pos 0)) (Ok tt)
begun {n} e same =
    subst (λ N. BeginPromise N (to_z w64 (of_z w64 (pos (marked 0) +ℤ to_z w64 n)) ∷ replicate (2 * account_words) (pos 0)) (Ok tt)) same
    (begun_lem n e)

-- ---- a month whose beginning was refused
pub always_other : AlwaysOther
always_other N p call bad known =
    let none : length_of (new_month N) ≡ 0 = length_begun false N (new_month N) bad (rw bad refl) in rw (known, none) refl
