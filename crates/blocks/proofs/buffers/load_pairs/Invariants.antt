-- After i turns i pairs are stored.
use Rattle.std.proofs.Common.{◌*◌, pos}
use Rattle.words.specs.Words.{word}
use Rattle.words.proofs.Writing.{Ends}
use Rattle.blocks.specs.Buffers.{in_pairs}
use Rattle.blocks.proofs.buffers.load_pairs.Given as goal

abbrev pub invariant-loop-i : goal.invariant-loop-i
invariant-loop-i l = Ends (pos 0) 0 (2 * l.i) 0 l.n (in_pairs l.n (word l.block)) l.initial.w l.w
