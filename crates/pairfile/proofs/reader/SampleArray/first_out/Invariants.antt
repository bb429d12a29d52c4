-- When the loop of `pairfile::reader::SampleArray::first_out` comes to i, the samples before it are in range.
use Rattle.std.proofs.Common.{◌≡◌}
use Rattle.lengths.specs.Block.{largest_sample}
use Rattle.refusals.specs.Passes.{AllWithin}
use Rattle.pairfile.specs.File.{samples_at}
use Rattle.pairfile.proofs.reader.SampleArray.first_out.Given as goal

abbrev pub invariant-loop-i : goal.invariant-loop-i
invariant-loop-i l = (l.looks ≡ l.i) × AllWithin largest_sample (samples_at l.self.file.now l.self.start) 0 l.i
