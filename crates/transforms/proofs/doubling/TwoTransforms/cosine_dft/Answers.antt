use Rattle.std.proofs.Common.{arith, rules}
use Rattle.transforms.proofs.Bases.{dft_pair_small, cosine_two}
use Rattle.transforms.proofs.doubling.TwoTransforms.cosine_dft.Goals as goal

pub overflow_add-w : goal.overflow_add-w
overflow_add-w c = let small = dft_pair_small c.requires in search rules

pub overflow_sub-w : goal.overflow_sub-w
overflow_sub-w c = let small = dft_pair_small c.requires in search rules

pub returns : goal.returns
returns c =
    let small = dft_pair_small c.requires in
    cosine_two c.requires (search rules) (search rules) (omega arith)
