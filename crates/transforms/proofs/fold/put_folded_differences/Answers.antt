use Rattle.std.proofs.Common.{◌-◌, ◌≡◌, arith, rules, to_z, of_z, w64, ◌-ℤ◌}
use Rattle.words.specs.Words.{word}
use Rattle.words.proofs.Writing.{ends_none, ends_front, ends_all}
use Rattle.transforms.proofs.Folding.{place, fold_turn}
use Rattle.transforms.proofs.fold.put_folded_differences.Goals as goal

pub loop-i-init : goal.loop-i-init
loop-i-init c = (omega arith, ends_none)

pub offset_bounds-w-p : goal.offset_bounds-w-p
offset_bounds-w-p c = omega (arith, fold_turn c.requires c.loop-i.invariant.1 c.loop-i.i (omega arith))

pub slice_copy_out-alternate : goal.slice_copy_out-alternate
slice_copy_out-alternate c = omega (arith, fold_turn c.requires c.loop-i.invariant.1 c.loop-i.i (omega arith))

pub offset_bounds-w-p-in-loop-i : goal.offset_bounds-w-p-in-loop-i
offset_bounds-w-p-in-loop-i c = omega (arith, fold_turn c.requires c.loop-i.invariant.1 c.loop-i.i (omega arith))

pub slice_copy_out-alternate-in-loop-i : goal.slice_copy_out-alternate-in-loop-i
slice_copy_out-alternate-in-loop-i c = omega (arith, fold_turn c.requires c.loop-i.invariant.1 c.loop-i.i (omega arith))

pub overflow_sub-w : goal.overflow_sub-w
overflow_sub-w c = let t = fold_turn c.requires c.loop-i.invariant.1 c.loop-i.i (omega arith) in search rules

pub alternate-requires : goal.alternate-requires
alternate-requires c = let t = fold_turn c.requires c.loop-i.invariant.1 c.loop-i.i (omega arith) in search rules

pub loop-i-preserved : goal.loop-i-preserved
loop-i-preserved c =
    let t = fold_turn c.requires c.loop-i.invariant.1 c.loop-i.i (omega arith) in
    let u = word c.loop-i.w (place c.args.stride c.loop-i.i) in
    let v = word c.loop-i.w (place c.args.stride c.loop-i.i - 1) in
    let made : to_z w64 (of_z w64 (to_z w64 (of_z w64 u) -ℤ to_z w64 (of_z w64 v))) ≡ u -ℤ v = search rules in
    let turned = rw (made, t.first_is, t.second_is) at c.alternate.ensures in
    (omega arith, ends_front c.loop-i.invariant.1 (omega arith) (search rules))

pub returns : goal.returns
returns c = record { words = ends_all c.loop-i.invariant.1 (omega arith); tallied = omega arith }
