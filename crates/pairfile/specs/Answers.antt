-- What the reader answers where it has read a file. The verdict of its answer, and of the writer's, is `answered` of
-- refusals/specs/Answers.
use Rattle.std.specs.Prelude.{Result, Ok, Err}
use Rattle.refusals.specs.declared.refusal.Refusal.{Refusal}
use Rattle.pairfile.specs.declared.reader.Sizes.{Sizes}

-- the sizes of a file that was read, m and N; 0 in every refusal
abbrev pub sizes_of : Result Sizes Refusal → Sizes
sizes_of (Err refusal) = record { samples = 0; length = 0 }
sizes_of (Ok sizes) = sizes
