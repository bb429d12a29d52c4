-- When the loop of `pairfile::writer::put_samples` comes to a sample, those before it are put.
use Rattle.std.proofs.Common.{take}
use Rattle.words.specs.Put.{Put}
use Rattle.pairfile.proofs.Samples.{samples_bytes}
use Rattle.pairfile.proofs.writer.put_samples.Given as goal

abbrev pub invariant-loop-x : goal.invariant-loop-x
invariant-loop-x l = Put l.initial.file l.fn.at (samples_bytes (take l.x-index l.recording)) l.next l.file
