-- The laws behind the laws of exclusion: what is promised to be one thing is not seen to be another. At a named input both compute, and the
-- test of whether they differ is `tt`.
-- Assumes nothing.
use mathlib.Core.Path.{◌≡◌, sym, ap, subst, ◌∙◌}
use mathlib.Core.Bool.{not}
use mathlib.Core.List.{List}
use Prim.Native.Nat.{ℕ, ◌+◌, ◌*◌, ◌≤◌, ◌<◌}
use native.Mathlib.Omega.{arith}
use lib.Dec.{T, eqb, eqb_refl, T_not, lit≤, lit<}
use lib.IntN.{ℤ, pos, negsuc}
use lib.ListN.{length, get_or}
use lib.Seq.{get_or-take, get_or-drop}
use Rattle.words.specs.Put.{Put}
use Rattle.refusals.specs.Refusals.{Verdict, number, accepted, Promise}
use Rattle.refusals.specs.Exclusion.{Excluded}

-- of counts, bytes and numbers of refusals
pub differ : {seen right wrong : ℕ} → seen ≡ right → seen ≡ wrong → T (not (eqb right wrong)) → ⊥
differ {right = m} {wrong = n} e f t = T_not (eqb m n) t (subst (λ k. T (eqb m k)) (sym e ∙ f) (eqb_refl m))

-- of words, told apart by a natural number for each
unfoldable pub code : ℤ → ℕ
code (pos n) = 2 * n
code (negsuc n) = 2 * n + 1

pub words_differ : {seen right wrong : ℤ} → seen ≡ right → seen ≡ wrong → T (not (eqb (code right) (code wrong))) → ⊥
words_differ e f t = differ (ap code e) (ap code f) t

-- what is done where the stated verdict computes to acceptance; and where it computes to a refusal, what stays
pub done_of : {told : Verdict} {Unchanged Done : Type 0} → Promise told accepted Unchanged Done → Done
done_of p = p.done p.verdict

pub stays : {told stated : Verdict} {Unchanged Done : Type 0} → Promise told stated Unchanged Done → T (not (eqb (number stated) 0))
    → Unchanged
stays p t = p.unchanged (λ a. differ (ap number p.verdict) (ap number a) t)

-- a byte of what was put at the front of a buffer, and one behind it
module _ {before bytes after : List ℕ} {next : ℕ} (p : Put before 0 bytes next after) where
  pub byte_put : (k : ℕ) → k < length bytes → get_or after k 0 ≡ get_or bytes k 0
  byte_put k h = sym (get_or-take next after k 0 (omega (arith, p.next_is))) ∙ ap (λ l. get_or l k 0) p.front

  pub byte_behind_lem : (k : ℕ) → next ≡ k → get_or after k 0 ≡ get_or before k 0
  byte_behind_lem k e =
      rw (← e)
      (ap (λ i. get_or after i 0) {x = next} {y = next + 0} (omega arith)
      ∙ sym (get_or-drop next after 0 0)
      ∙ ap (λ l. get_or l 0 0) p.rest
      ∙ get_or-drop next before 0 0
      ∙ ap (λ i. get_or before i 0) {x = next + 0} {y = next} (omega arith))

-- ---- passes
pub excluded : Excluded
excluded = record {
  goes_on = λ p. omega (arith, p.looks);
  look_not_tallied = λ p. omega (arith, p.looks);
  place_in_block = λ p. omega (arith, p.finds.from);
  none_found = λ p. let within : 1000001 ≤ 1000000 = p.finds 1 (lit≤ tt) (lit< tt) in omega arith;
  all_out_of_range = λ looks p. omega (arith, p.finds.beyond);
}
