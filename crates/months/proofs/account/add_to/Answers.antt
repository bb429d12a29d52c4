-- `months::account::add_to` meets its contract. Assumes nothing.
use Rattle.std.proofs.Common.{rules, ◌≡◌, false}
use Rattle.spectra.specs.Promises.{buffers}
use Rattle.months.specs.Accounts.{full}
use Rattle.months.specs.Promises.{given}
use Rattle.months.proofs.AccountRuns.{add_ready, block_held}
use Rattle.months.proofs.account.add_to.Goals as goal

pub add_block-requires : goal.add_block-requires
add_block-requires c =
    let a = c.args in
    let g = given a.recording.now a.request.start a.request.length a.request.allowance (buffers a.cosine.now a.sine.now a.scratch.now) in
    let (short, cosines, sines) = add_ready g c.in_ok-spent.ensures in
    (c.requires, short, cosines, sines, search rules)

pub returns : goal.returns
returns c =
    let a = c.args in
    let g = given a.recording.now a.request.start a.request.length a.request.allowance (buffers a.cosine.now a.sine.now a.scratch.now) in
    let room : full a.account.now ≡ false = search rules in
    block_held g c.in_ok-spent.ensures room c.add_block.ensures
