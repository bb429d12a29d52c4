-- `months::record::add_to` meets its contract. Assumes nothing.
use Rattle.std.proofs.Common.{sym, ◌∙◌}
use Rattle.months.proofs.AddRuns.{added_for}
use Rattle.months.proofs.Lengths.{other_told}
use Rattle.months.proofs.record.add_to.Goals as goal

pub returns : goal.returns
returns c =
    let own = sym (other_told c.args.month.now _ c.args.request.length c.own_length.ensures) ∙ sym c.if-ne.ensures in
    added_for c.in_ok-party.party _ c.args.month.now own c.in_ok-party.ensures c.told-month c.add_for.ensures
