-- The run of proofs/ValueRuns.
use Rattle.std.proofs.Common.{◌≡◌, ◌∙◌, arith, rules, to_z, of_z, w32, w64}
use Rattle.words.specs.Words.{word}
use Rattle.inverse.proofs.ValueRuns.{sums_ready, sums_small, near_value, far_value, value_ready}
use Rattle.inverse.proofs.value.two_values.Goals as goal

pub every_other-even-requires : goal.every_other-even-requires
every_other-even-requires c = sums_ready c.requires (omega arith)

pub every_other-odd-requires : goal.every_other-odd-requires
every_other-odd-requires c = sums_ready c.requires (omega arith)

pub add-requires : goal.add-requires
add-requires c = sums_small c.requires c.every_other-even.ensures c.every_other-odd.ensures

pub value-requires : goal.value-requires
value-requires c =
    let near = near_value c.requires c.every_other-even.ensures c.every_other-odd.ensures c.add.ensures in
    value_ready c.requires c.add.ensures.size (omega (arith, c.requires.front)) (search rules) near

pub sub-requires : goal.sub-requires
sub-requires c = sums_small c.requires c.every_other-even.ensures c.every_other-odd.ensures

pub value-requires-2 : goal.value-requires-2
value-requires-2 c =
    let far = far_value c.requires c.every_other-even.ensures c.every_other-odd.ensures c.sub.ensures in
    value_ready c.requires c.sub.ensures.size (omega (arith, c.requires.front)) (search rules) far

pub returns : goal.returns
returns c =
    let first : to_z w64 (of_z w64 c.from-c.result) ≡ word c.args.coefficients.now 0 = search rules in
    let near : to_z w32 (of_z w32 c.value.result) ≡ c.value.result = search rules in
    let far : to_z w32 (of_z w32 c.value-2.result) ≡ c.value-2.result = search rules in
    record {
      near_is = near ∙ rw first at c.value.ensures ∙ near_value c.requires c.every_other-even.ensures c.every_other-odd.ensures
          c.add.ensures;
      far_is = far ∙ rw first at c.value-2.ensures ∙ far_value c.requires c.every_other-even.ensures c.every_other-odd.ensures
          c.sub.ensures;
    }
