-- `counts::Level::first` meets its contract: the definitions compute.
use Rattle.std.proofs.Common.{refl, arith, rules}
use Rattle.lengths.specs.Block.{is_length, level}
use Rattle.ffct.specs.Transforms.{dct_by, cosine_dft, sine_dft, dct}
use Rattle.counts.proofs.Level.first.Goals as goal

pub invariant_of-result : goal.invariant_of-result
unfolding is_length level dct_by cosine_dft sine_dft dct
invariant_of-result c = record {
  costs = record { length_ok = refl; some = omega arith; of_cosine = search rules; of_sine = search rules; of_dct = search rules };
}
