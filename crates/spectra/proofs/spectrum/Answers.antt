-- `spectra::spectrum` meets its contract. Assumes nothing.
use Rattle.std.proofs.Common.{rules}
use Rattle.spectra.proofs.Accepted.{spectrum_done}
use Rattle.spectra.proofs.spectrum.Goals as goal

pub returns : goal.returns
returns c = search (rules, spectrum_done, c.in_ok-test_spectrum.ensures)
