use Rattle.std.proofs.Common.{◌≡◌, arith, rules, of_z, to_z, w64, ◌-ℤ◌}
use Rattle.words.specs.Words.{word}
use Rattle.transforms.proofs.Bases.{dct_pair_small, dct_two}
use Rattle.transforms.proofs.doubling.TwoTransforms.dct.Goals as goal

pub returns : goal.returns
returns c =
    let small = dct_pair_small c.requires in
    let w = c.args.w.now in
    let difference : to_z w64 (of_z w64 (to_z w64 (of_z w64 (word w 0)) -ℤ to_z w64 (of_z w64 (word w 1)))) ≡ word w 0 -ℤ word w 1 =
    search rules in
    let middle = rw difference at c.rotate_middle-middle.ensures in
    dct_two c.requires (search rules) (search rules) (omega arith)
