-- `rotation::rotate_middle` meets its contract: the product of a table entry and a coefficient fits a word.
use Rattle.std.proofs.Common.{◌≡◌, ◌∙◌, ◌≤◌, ◌+◌, ◌^◌, ap, w64, ℤ, nat_abs, ◌*ℤ◌, FitsSigned, to_z, of_z, rules}
use Rattle.std.proofs.lemmas.Int.{to_z-of_z}
use borrow.Author.Rules.{sfits_of}
use lib.Dec.{lit<, lit≤}
use Rattle.whole.proofs.Size.{◌within◌, size_within, within_size, within_le, within_mul, within_fits}
use Rattle.circle.specs.Circle.{T}
use Rattle.lengths.specs.Block.{largest_sum}
use Rattle.ffct.proofs.Sizes.{entry_within}
use Rattle.rotation.proofs.rotate_middle.Goals as goal

size : (C : ℤ) → nat_abs C ≤ largest_sum + 128 → T 512 *ℤ C within 2 ^ 62
size C h = within_le (within_mul (entry_within 512 (lit≤ tt)) (size_within _ h)) (lit≤ tt)

-- the entry e and the coefficient, as they are read
module _ {e C : ℤ} (fe : FitsSigned w64 e) (fC : FitsSigned w64 C) (is : e ≡ T 512) (h : nat_abs C ≤ largest_sum + 128) where
  product : to_z w64 (of_z w64 e) *ℤ to_z w64 (of_z w64 C) ≡ T 512 *ℤ C
  product = rw (to_z-of_z w64 _ fe, to_z-of_z w64 _ fC, is)

  fits : FitsSigned w64 (T 512 *ℤ C)
  fits = within_fits (size C h) (lit< tt)

  rounded : to_z w64 (of_z w64 (to_z w64 (of_z w64 e) *ℤ to_z w64 (of_z w64 C))) ≡ T 512 *ℤ C
  rounded = rw (product, to_z-of_z w64 _ fits)

pub overflow_mul-product : goal.overflow_mul-product
overflow_mul-product c = rw (product (sfits_of c.at.type_inv) c.ranges.cosine c.at.ensures c.requires)
    (fits (sfits_of c.at.type_inv) c.ranges.cosine c.at.ensures c.requires)

pub round-rounded-requires : goal.round-rounded-requires
round-rounded-requires c = rw (rounded (sfits_of c.at.type_inv) c.ranges.cosine c.at.ensures c.requires)
    (within_size (size c.args.cosine c.requires))

pub returns : goal.returns
returns c =
    let r = rw (rounded (sfits_of c.at.type_inv) c.ranges.cosine c.at.ensures c.requires) at c.round-rounded.ensures in
    record {
      middle = to_z-of_z w64 c.round-rounded.result.value (search rules) ∙ r.0;
      one_product = search rules;
      no_sum = search rules;
      size_of_rest = c.unsigned_abs.ensures.value ∙ ap nat_abs (to_z-of_z w64 c.round-rounded.result.rest (search rules) ∙ r.1);
    }
