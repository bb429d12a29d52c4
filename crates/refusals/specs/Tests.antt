-- What the tests of a call tell.
use Rattle.std.specs.Prelude.{◌≡◌, Result, ⊤}
use Rattle.refusals.specs.declared.refusal.Refusal.{Refusal}
use Rattle.refusals.specs.Refusals.{Verdict}
use Rattle.refusals.specs.Answers.{behind}

-- their verdict, whatever is tested behind them
pub record Tells (tests : Verdict → Verdict) (tested : Result ⊤ Refusal) : Type 0 where
  pub verdict : (rest : Verdict) → tests rest ≡ behind tested rest
