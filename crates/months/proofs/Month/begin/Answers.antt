-- `months::Month::begin` meets its contract. Assumes nothing.
use Rattle.months.proofs.Held.{begun_holds, begun_held}
use Rattle.months.proofs.Month.begin.Goals as goal

pub invariant_of-result : goal.invariant_of-result
invariant_of-result c = record { held = begun_held c.begin_in-answer.ensures }

pub returns : goal.returns
returns c = let p = c.begin_in-answer.ensures in record { promise = p; held = begun_holds p }
