use Rattle.std.proofs.Common.{arith, refl}
use Rattle.words.proofs.Writing.{written_one, written_more}
use Rattle.transforms.proofs.Bases.{sine_few}
use Rattle.transforms.proofs.doubling.TwoTransforms.sine_dft.Goals as goal

pub returns : goal.returns
returns c = sine_few c.requires (omega arith) (written_more (written_one (omega arith) refl) (omega arith) refl)
