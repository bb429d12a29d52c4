-- `months::Month::add` meets its contract. Assumes nothing.
use Rattle.months.proofs.Held.{next_holds, next_held}
use Rattle.months.proofs.Month.add.Goals as goal

pub invariant_of-self : goal.invariant_of-self
invariant_of-self c = record { held = next_held _ _ c.add_to.ensures c.args.self.now.held }

pub returns : goal.returns
returns c = record { promise = c.add_to.ensures; held = next_holds _ _ c.add_to.ensures }
