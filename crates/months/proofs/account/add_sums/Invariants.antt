use Rattle.std.proofs.Common.{◌+◌, pos, length}
use Rattle.words.specs.Words.{word}
use Rattle.words.proofs.Writing.{Ends}
use Rattle.months.specs.Accounts.{plus}
use Rattle.months.proofs.account.add_sums.Given as goal

abbrev pub invariant-loop-k : goal.invariant-loop-k
invariant-loop-k l =
    Ends (pos 0) l.at l.k 0 (length l.coefficients) (λ j. plus (word l.initial.account (l.at + j)) (word l.coefficients j))
    l.initial.account l.account
