use Rattle.std.proofs.Common.{◌≡◌, ◌+◌}
use Rattle.words.specs.Words.{word}
use Rattle.refusals.specs.Passes.{AllWithin}
use Rattle.refusals.proofs.range.first_beyond.Given as goal

abbrev pub invariant-loop-i : goal.invariant-loop-i
invariant-loop-i l = (l.looks ≡ l.i) × AllWithin l.limit (word l.words) l.start (l.start + l.i)
