use Rattle.std.proofs.Common.{arith, rules}
use Rattle.words.proofs.Writing.{ends_none, ends_front, ends_all}
use Rattle.transforms.proofs.Folding.{fold_turn}
use Rattle.transforms.proofs.fold.put_folded_sums.Goals as goal

pub loop-i-init : goal.loop-i-init
loop-i-init c = (omega arith, ends_none)

pub offset_bounds-w-p : goal.offset_bounds-w-p
offset_bounds-w-p c = omega (arith, fold_turn c.requires c.loop-i.invariant.1 c.loop-i.i (omega arith))

pub slice_copy_out-w : goal.slice_copy_out-w
slice_copy_out-w c = omega (arith, fold_turn c.requires c.loop-i.invariant.1 c.loop-i.i (omega arith))

pub offset_bounds-w-p-in-loop-i : goal.offset_bounds-w-p-in-loop-i
offset_bounds-w-p-in-loop-i c = omega (arith, fold_turn c.requires c.loop-i.invariant.1 c.loop-i.i (omega arith))

pub slice_copy_out-w-in-loop-i : goal.slice_copy_out-w-in-loop-i
slice_copy_out-w-in-loop-i c = omega (arith, fold_turn c.requires c.loop-i.invariant.1 c.loop-i.i (omega arith))

pub overflow_add-w : goal.overflow_add-w
overflow_add-w c = let t = fold_turn c.requires c.loop-i.invariant.1 c.loop-i.i (omega arith) in search rules

pub loop-i-preserved : goal.loop-i-preserved
loop-i-preserved c =
    let t = fold_turn c.requires c.loop-i.invariant.1 c.loop-i.i (omega arith) in
    (omega arith, ends_front c.loop-i.invariant.1 (omega arith) (search rules))

pub returns : goal.returns
returns c = record { words = ends_all c.loop-i.invariant.1 (omega arith); tallied = omega arith }
