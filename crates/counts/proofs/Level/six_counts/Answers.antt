-- `counts::Level::six_counts` meets its contract, by (21) to (23).
use Rattle.std.proofs.Common.{arith}
use Rattle.counts.proofs.Costs.{dct_next, six_counts_lem}
use Rattle.counts.proofs.Level.six_counts.Goals as goal

pub returns : goal.returns
returns c =
    let l = c.args.self.costs in
    six_counts_lem l (dct_next l c.dct_counts.ensures) (omega arith) (omega arith)
