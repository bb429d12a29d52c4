-- `months::record::begin_in` meets its contract. Assumes nothing.
use Rattle.months.proofs.Beginning.{begun, not_begun}
use Rattle.months.proofs.record.begin_in.Goals as goal

pub returns-in_err-length : goal.returns-in_err-length
returns-in_err-length c = not_begun _ _ c.in_err-length.ensures c.from_residual.ensures.1

pub returns : goal.returns
returns c = begun c.in_ok-length.length.is_length c.in_ok-length.ensures
