-- Document 02, (ix), "A gauge wired the other way round": "every coefficient to change sign and nothing else".
-- What is stated of two calls of which one is given what the other is given with every sign changed.
use Rattle.std.specs.Prelude.{◌≡◌}
use Rattle.refusals.specs.Refusals.{Verdict, accepted}
use Rattle.refusals.specs.Calls.{Call}

-- two calls on recordings are lent as much room
pub record SameRoom (call call' : Call) : Type 0 where
  pub results : call'.results ≡ call.results
  pub scratch : call'.scratch ≡ call.scratch

-- what two such calls show: the same answer; and where they are accepted, words with their sign changed
pub record Turned {A : Type 0} (told : Verdict) (answer answer' : A) (NegatedWords : Type 0) : Type 0 where
  pub same : answer' ≡ answer
  pub words : told ≡ accepted → NegatedWords
