-- After i turns i samples are stored.
use Rattle.std.proofs.Common.{length, pos}
use Rattle.words.specs.Words.{word}
use Rattle.words.proofs.Writing.{Ends}
use Rattle.blocks.proofs.buffers.load.Given as goal

abbrev pub invariant-loop-i : goal.invariant-loop-i
invariant-loop-i l = Ends (pos 0) 0 l.i 0 (length l.block) (word l.block) l.initial.w l.w
