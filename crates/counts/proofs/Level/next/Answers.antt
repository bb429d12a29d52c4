-- `counts::Level::next` meets its contract, by (23) to (25).
use Rattle.std.proofs.Common.{arith}
use Rattle.counts.proofs.Costs.{next_costs}
use Rattle.counts.proofs.Level.next.Goals as goal

pub invariant_of-result : goal.invariant_of-result
invariant_of-result c = record { costs = next_costs c.args.self.costs c.requires (omega arith) (omega arith) c.dct_counts.ensures }
