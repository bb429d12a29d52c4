-- Every account that holds a history: the size of its sums, their distance from the exact ones, and the account with one block more.
-- Assumes nothing.
use mathlib.Core.Path.{◌≡◌, refl, sym, ap, subst, ◌∙◌}
use mathlib.Core.Bool.{true, false}
use mathlib.Core.List.{List, [], ◌∷◌, ◌++◌}
use Prim.Native.Nat.{ℕ, ◌*◌, ◌/◌, ◌^◌, ◌≤◌, ◌<◌}
use native.Mathlib.Omega.{arith}
use lib.IntN.{ℤ, nat_abs, ◌+ℤ◌}
use lib.ListN.{length, length-append}
use lib.Signed.{nat_abs-le}
use borrow.Author.Tests.{le-leb, leb-false}
use Rattle.words.specs.Words.{Samples}
use Rattle.lengths.specs.Block.{AcceptedBlock, level}
use Rattle.lengths.proofs.ElevenLengths.{is_power, has_level}
use Rattle.ffct.specs.Exact.{Within, eighth, exact_cosine, exact_sine}
use Rattle.ffct.specs.Transforms.{cosine_dft, sine_dft, spectrum}
use Rattle.ffct.proofs.Limits.{limits}
use Rattle.ffct.proofs.Sizes.{coefficients_fit}
use Rattle.refusals.specs.Refusals.{at_most}
use Rattle.months.specs.Accounts.{full, most_blocks, plus, BlockAdded, History, sum_over, Holds}
use Rattle.months.specs.Laws.{AccountLimits, SumsFit}
use Rattle.months.proofs.Adding.{plus_is}
use Rattle.months.proofs.Histories.{sum_more, accepted_more, sum_size, sum_near}

-- ---- the coefficients of an accepted block
module _ (N : ℕ) {k : ℕ} (h : k ≤ N / 2) (x : Samples) (a : AcceptedBlock (level N) x) where
  power : N ≡ 2 ^ level N
  power = is_power N (has_level N a.level_ok)

  in_power : k ≤ 2 ^ level N / 2
  in_power = omega (arith, h, power)

  cosine_size : nat_abs ((spectrum (level N) x).cosine k) ≤ 2 ^ 31
  unfolding spectrum
  cosine_size = nat_abs-le ((cosine_dft (level N) x).at k) ((coefficients_fit _ x a).cosine k in_power).sfits

  sine_size : nat_abs ((spectrum (level N) x).sine k) ≤ 2 ^ 31
  unfolding spectrum
  sine_size = nat_abs-le ((sine_dft (level N) x).at k) ((coefficients_fit _ x a).sine k in_power).sfits

  cosine_near : Within (eighth N) ((spectrum (level N) x).cosine k) (exact_cosine N x k)
  unfolding spectrum
  cosine_near =
      subst (λ n. Within (eighth n) ((cosine_dft (level N) x).at k) (exact_cosine n x k)) (sym power) ((limits _ x a).cosine k in_power)

  sine_near : Within (eighth N) ((spectrum (level N) x).sine k) (exact_sine N x k)
  unfolding spectrum
  sine_near = subst (λ n. Within (eighth n) ((sine_dft (level N) x).at k) (exact_sine n x k)) (sym power) ((limits _ x a).sine k in_power)

-- ---- the laws
module _ {N : ℕ} {account : List ℤ} {history : History} (held : Holds N account history) where
  pub sums_fit : SumsFit N account history
  sums_fit = record {
    cosine = λ k h. rw (held.cosine k h) (sum_size N (2 ^ 31) _ (cosine_size N h) history held.blocks);
    sine = λ k h. rw (held.sine k h) (sum_size N (2 ^ 31) _ (sine_size N h) history held.blocks);
  }

  pub account_limits : AccountLimits N account history
  account_limits = record {
    cosine = λ k h. rw (held.cosine k h) (sum_near N _ _ (cosine_near N h) history held.blocks);
    sine = λ k h. rw (held.sine k h) (sum_near N _ _ (sine_near N h) history held.blocks);
  }

  -- ---- an account that is not full, with one block more
  not_full : full account ≡ false → length history < most_blocks
  not_full e = leb-false most_blocks (length history) (rw held.number at e)

  roomy : (z : ℤ) → nat_abs z ≤ length history * 2 ^ 31 → at_most (2 ^ 62) z ≡ true
  roomy z h = le-leb (nat_abs z) (2 ^ 62) (omega (arith, h, held.at_most))

  next_sum : (f : Samples → ℤ) (x : Samples) {z z' : ℤ} → z ≡ sum_over f history → nat_abs z ≤ length history * 2 ^ 31 → z' ≡ plus z (f x)
      → z' ≡ sum_over f (history ++ (x ∷ []))
  next_sum f x {z} is small e = e ∙ plus_is z (f x) (roomy z small) ∙ ap (λ y. y +ℤ f x) is ∙ sym (sum_more f history x)

  pub one_more : {account' : List ℤ} {x : Samples} → full account ≡ false → AcceptedBlock (level N) x
      → BlockAdded N (spectrum (level N) x).cosine (spectrum (level N) x).sine account account'
      → Holds N account' (history ++ (x ∷ []))
  one_more {account'} {x} room a added = record {
    blocks = accepted_more N history x held.blocks a;
    number = added.number ∙ rw (held.number, length-append history (x ∷ [])) refl;
    at_most = simp length-append (omega (arith, not_full room));
    cosine = λ k h. next_sum _ x (held.cosine k h) (sums_fit.cosine k h) (added.cosine k h);
    sine = λ k h. next_sum _ x (held.sine k h) (sums_fit.sine k h) (added.sine k h);
    beyond = λ k h l.
        let (c, s) = added.beyond k h l in
        let (d, t) = held.beyond k h l in
        (c ∙ d, s ∙ t);
  }
