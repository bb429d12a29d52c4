-- A coefficient beyond its limit.
use Rattle.std.proofs.Common.{rules}
use Rattle.inverse.proofs.Verdicts.{beyond_limit}
use Rattle.inverse.proofs.inverse_dct.Goals as goal

pub returns-in-Some : goal.returns-in-Some
returns-in-Some c = search (rules, beyond_limit)
