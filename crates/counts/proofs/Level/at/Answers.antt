-- `counts::Level::at` meets its contract: there are at most 512 samples below the last level.
use Rattle.std.proofs.Common.{◌≤◌, arith}
use lib.Pow.{pow_mono}
use Rattle.counts.proofs.Level.at.Goals as goal

pub next-level-requires : goal.next-level-requires
next-level-requires c =
    let most : c.loop-l.l ≤ 9 = omega arith in
    omega (arith, pow_mono most, c.loop-l.invariant)
