-- `report::put_block` meets its contract: Pair accepts the block, and the lines are put of what it leaves. Assumes nothing.
use native.Mathlib.Omega.{arith}
use Prim.Native.Nat.{◌≤◌}
use lib.ListN.{length}
use lib.Seq.{length-take-le}
use Rattle.words.proofs.Writing.{front}
use Rattle.lengths.proofs.ElevenLengths.{length_le}
use Rattle.report.proofs.LineRuns.{front_lines}
use Rattle.report.proofs.Printing.{pair_done, few_blocks}
use Rattle.report.proofs.put_block.Goals as goal

pub put_lines-requires : goal.put_lines-requires
put_lines-requires c =
    let k = c.requires.0 in
    let real = length-take-le c.args.n c.pair.new.real (omega (arith, c.pair.auto.real, k.real_words)) in
    let imaginary = length-take-le c.args.n c.pair.new.imaginary (omega (arith, c.pair.auto.imaginary, k.imaginary_words)) in (
      omega (arith, few_blocks c.args.block c.args.n _ k.length_ok k.most),
      omega (arith, length_le c.args.n k.length_ok),
      omega arith,
      omega (arith, c.requires.1),
    )

pub returns : goal.returns
returns c =
    let k = c.requires.0 in
    let done = pair_done c.args.block c.pair.result k c.pair_products.ensures c.pair.ensures in
    let room : c.args.n ≤ length c.pair.new.real = omega (arith, done.real_words.len, k.real_words) in
    record {
      put = rw (front_lines c.args.block c.args.n _ _ _ _ room (front done.real_words) (front done.imaginary_words)) at
          c.put_lines.ensures.0;
      fits = omega (arith, c.put_lines.ensures.1, length-take-le c.args.n c.pair.new.real room);
      kept = record { real = done.real_words.len; imaginary = done.imaginary_words.len; scratch = done.spends.scratch_cleared.len };
    }
