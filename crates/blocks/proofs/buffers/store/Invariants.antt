-- After k turns k words are stored.
use Rattle.std.proofs.Common.{length, pos}
use Rattle.words.specs.Words.{word}
use Rattle.words.proofs.Writing.{Ends}
use Rattle.blocks.proofs.buffers.store.Given as goal

abbrev pub invariant-loop-k : goal.invariant-loop-k
invariant-loop-k l = Ends (pos 0) 0 l.k 0 (length l.w) (word l.w) l.initial.out l.out
