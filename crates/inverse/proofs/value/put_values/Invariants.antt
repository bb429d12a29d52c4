-- After i turns i values are stored at each end.
use Rattle.std.proofs.Common.{pos}
use Rattle.words.specs.Words.{word}
use Rattle.words.proofs.Writing.{Ends}
use Rattle.inverse.specs.Inverse.{inverse_dct}
use Rattle.inverse.proofs.value.put_values.Given as goal

abbrev pub invariant-loop-i : goal.invariant-loop-i
invariant-loop-i l = Ends (pos 0) 0 l.i l.i l.n (inverse_dct l.n (word l.coefficients)) l.initial.values l.values
