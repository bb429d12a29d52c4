-- When the loop of `pairfile::reader::SampleArray::fill` comes to i, i samples are stored.
use Rattle.std.proofs.Common.{pos}
use Rattle.words.proofs.Writing.{Ends}
use Rattle.pairfile.specs.File.{samples_at}
use Rattle.pairfile.proofs.reader.SampleArray.fill.Given as goal

abbrev pub invariant-loop-i : goal.invariant-loop-i
invariant-loop-i l = Ends (pos 0) 0 l.i 0 l.self.count (samples_at l.self.file.now l.self.start) l.initial.recording l.recording
