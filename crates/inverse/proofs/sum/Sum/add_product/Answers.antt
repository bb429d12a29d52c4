-- Each word of the sum holds its number.
use Rattle.inverse.proofs.Adding.{added}
use Rattle.inverse.proofs.sum.Sum.add_product.Goals as goal

pub returns : goal.returns
returns c = added c.requires
