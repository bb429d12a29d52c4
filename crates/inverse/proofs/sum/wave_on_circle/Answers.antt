-- Of the place folded to the first half of the circle: up to 1,024 it is T, and beyond it the negative of T.
use Rattle.std.proofs.Common.{sym, ◌∙◌, ◌-◌, arith, lit<}
use Rattle.whole.proofs.Size.{within_neg, within_fits}
use Rattle.whole.proofs.Words.{held, negates, negated}
use Rattle.ffct.proofs.Sizes.{entry_within}
use Rattle.inverse.proofs.Waves.{wave_low, wave_high}
use Rattle.inverse.proofs.sum.wave_on_circle.Goals as goal

pub returns-then-j-le1024 : goal.returns-then-j-le1024
returns-then-j-le1024 c =
    (held c.at.type_inv c.at.ensures).is ∙ sym (wave_low c.args.place c.min-j.result c.min-j.ensures c.requires c.if-j-le1024.true)

pub overflow_sub-result : goal.overflow_sub-result
overflow_sub-result c =
    negates (held c.at-2.type_inv c.at-2.ensures) (within_fits (within_neg (entry_within (2048 - c.min-j.result) (omega arith))) (lit< tt))

pub returns : goal.returns
returns c =
    (negated (held c.at-2.type_inv c.at-2.ensures)
    (within_fits (within_neg (entry_within (2048 - c.min-j.result) (omega arith))) (lit< tt))).is
    ∙ sym (wave_high c.args.place c.min-j.result c.min-j.ensures c.requires c.if-j-le1024.false)
