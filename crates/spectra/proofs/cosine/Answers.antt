-- `spectra::cosine` meets its contract. Assumes nothing.
use Rattle.std.proofs.Common.{rules}
use Rattle.spectra.proofs.Accepted.{cosine_done}
use Rattle.spectra.proofs.cosine.Goals as goal

pub returns : goal.returns
returns c = search (rules, cosine_done, c.in_ok-test_cosine.ensures)
