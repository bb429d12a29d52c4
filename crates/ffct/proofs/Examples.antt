-- P1 to P10 hold: the checker computes them from the definitions.
-- Assumes nothing.
use mathlib.Core.Path.{refl}
use lib.ListN.{drop}
use Rattle.whole.specs.Round.{nearest, round}
use Rattle.circle.specs.Circle.{root_of, halved, unit_step, step, stepped, first_quarter, on_half, on_circle, K, T}
use Rattle.ffct.specs.Transforms.{alternate, rearranged, cosine_beyond, sine_beyond, dct_beyond, apart, unrounded, rotated}
use Rattle.ffct.specs.Transforms.{dct_by, cosine_dft, dct, spectrum}
use Rattle.ffct.specs.Examples.{values, All, examples}

pub all : All examples
unfolding values nearest round root_of halved unit_step step stepped first_quarter on_half on_circle K T
    alternate rearranged cosine_beyond sine_beyond dct_beyond apart unrounded rotated dct_by cosine_dft dct spectrum
all =
    let from-P7 : All (drop 7 examples) = ((refl, refl), ((refl, refl), (λ x. (refl, refl), (λ x. (refl, refl), tt)))) in
    ((refl, refl), (refl, ((refl, refl), (refl, (refl, (refl, (refl, from-P7)))))))
