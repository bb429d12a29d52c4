use Rattle.std.proofs.Common.{refl}
use Rattle.transforms.proofs.Bases.{dct_one}
use Rattle.transforms.proofs.doubling.TwoTransforms.half_dct.Goals as goal

pub returns : goal.returns
returns c = dct_one c.requires refl
