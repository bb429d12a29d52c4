-- `spectra::marks::mark_block` meets its contract. Assumes nothing.
use Rattle.std.proofs.Common.{sym, ◌∙◌}
use mir.Facts.{to_z-of_z}
use Rattle.spectra.specs.Promises.{buffers}
use Rattle.spectra.proofs.MarkRuns.{marking_ready, marking_done}
use Rattle.spectra.proofs.marks.mark_block.Goals as goal

pub mark_by-mark-requires : goal.mark_by-mark-requires
mark_by-mark-requires c =
    let a = c.args in
    let f = c.ranges.flat_limit in
    let l = c.ranges.clip_level in
    let good = sym (rw (to_z-of_z f, to_z-of_z l) at c.bad_figures.ensures) ∙ c.if-bad_figures.false in
    marking_ready a.recording.now _ _ _ a.flat_limit a.clip_level good
    (rw (to_z-of_z f) at c.unsigned_abs-limit.ensures.value) (rw (to_z-of_z l) at c.unsigned_abs-level.ensures.value)
    (buffers a.cosine.now a.sine.now a.scratch.now) (buffers c.spectrum.new.cosine c.spectrum.new.sine c.spectrum.new.scratch)
    c.in_ok-spent.ensures

pub returns : goal.returns
returns c =
    let a = c.args in
    let f = c.ranges.flat_limit in
    let l = c.ranges.clip_level in
    let good = sym (rw (to_z-of_z f, to_z-of_z l) at c.bad_figures.ensures) ∙ c.if-bad_figures.false in
    marking_done a.recording.now _ _ _ a.flat_limit a.clip_level good
    (rw (to_z-of_z f) at c.unsigned_abs-limit.ensures.value) (rw (to_z-of_z l) at c.unsigned_abs-level.ensures.value)
    (buffers a.cosine.now a.sine.now a.scratch.now) (buffers c.spectrum.new.cosine c.spectrum.new.sine c.spectrum.new.scratch)
    c.in_ok-spent.ensures c.mark_by-mark.ensures
