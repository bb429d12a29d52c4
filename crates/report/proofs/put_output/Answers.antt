-- `report::put_output` meets its contract: a refusal's line, or the lines of the file that was read. Assumes nothing.
use Rattle.report.proofs.Outputs.{refusal_put, spectra_room, spectra_ready, spectra_put}
use Rattle.report.proofs.put_output.Goals as goal

pub put_spectra-requires : goal.put_spectra-requires
put_spectra-requires c =
    let (of_a, of_b, real, imaginary, scratch, room) = c.requires in
    let r = c.read.ensures in
    let is = c.in-Ok.is in
    (spectra_ready _ _ _ _ _ _ r of_a of_b _ is real imaginary scratch, spectra_room _ _ _ _ _ _ r of_a of_b _ is _ room)

pub returns-in-Err : goal.returns-in-Err
returns-in-Err c =
    refusal_put _ _ _ _ _ _ c.read.ensures c.requires.0 c.requires.1 c.in-Err.is c.from.ensures c.put_refusal.ensures

pub returns-in-Ok : goal.returns-in-Ok
returns-in-Ok c = spectra_put _ _ _ _ _ _ c.read.ensures c.requires.0 c.requires.1 _ c.in-Ok.is c.put_spectra.ensures
