-- `circle::QuarterWave::at` meets its contract: an entry is not negative, so that it is the same number as an unsigned word.
use mir.Facts.{sfits_widen}
use Rattle.std.proofs.Common.{◌≡◌, ◌≤◌, ℕ, refl, sym, subst, ◌∙◌, w32, w64, ℤ, pos, negsuc, nat_abs, to_z, of_z, Fits, FitsSigned, rules, T}
use Rattle.std.proofs.Math.Facts.{to_z-of_z, to_z_pos, Fits-nat_abs}
use Rattle.std.specs.Int.Signed.{non_neg}
use Rattle.circle.specs.Circle as circle
use Rattle.circle.proofs.Stored.{entry_not_below}
use Rattle.circle.proofs.QuarterWave.at.Goals as goal

size : (z : ℤ) → T (non_neg z) → pos (nat_abs z) ≡ z
size (pos m) t = refl
size (negsuc m) t = absurd t

-- a number that is not negative, cast to an unsigned word and from there to a signed one of 64 bits: what the casts ask, and what they give
module _ {z : ℤ} (f : FitsSigned w32 z) (n : T (non_neg z)) where
  unsigned : T (non_neg (to_z w32 (of_z w32 z))) × Fits w32 (nat_abs (to_z w32 (of_z w32 z)))
  unsigned = rw (to_z-of_z f) (n, Fits-nat_abs tt f)

  signed : FitsSigned w64 (pos (nat_abs (to_z w32 (of_z w32 z))))
  signed = rw (to_z-of_z f, size z n) (sfits_widen tt f)

  same : to_z w64 (nat_abs (to_z w32 (of_z w32 z))) ≡ z
  same = to_z_pos w64 signed.sfits ∙ rw (to_z-of_z f) (size z n)

above : (z : ℤ) (j : ℕ) → z ≡ circle.T j → j ≤ 1024 → T (non_neg z)
above z j e h = subst (λ x. T (non_neg x)) (sym e) (entry_not_below j h)

pub overflow_cast-result : goal.overflow_cast-result
overflow_cast-result c =
    unsigned (search rules) (above _ _ (c.args.self.now.is_quarter_wave c.args.j c.requires) c.requires)

pub returns : goal.returns
returns c =
    let is_entry = c.args.self.now.is_quarter_wave c.args.j c.requires in
    same (search rules) (above _ _ is_entry c.requires) ∙ is_entry
