-- `spectra::pair` meets its contract. Assumes nothing.
use Rattle.std.proofs.Common.{rules}
use Rattle.spectra.proofs.Accepted.{pair_done}
use Rattle.spectra.proofs.pair.Goals as goal

pub returns : goal.returns
returns c = search (rules, pair_done, c.in_ok-test_pair.ensures)
