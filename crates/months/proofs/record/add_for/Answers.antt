-- `months::record::add_for` meets its contract. Assumes nothing.
use Rattle.std.proofs.Common.{refl}
use Rattle.months.proofs.Parties.{known_party, for_party}
use Rattle.months.proofs.record.add_for.Goals as goal

pub returns : goal.returns
returns c =
    for_party _ _ c.args.month.now _ _ _ c.told-month (known_party c.args.party) c.account_at-from.ensures refl c.add_to.ensures
