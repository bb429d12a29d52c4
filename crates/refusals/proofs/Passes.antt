-- What follows of what a pass over numbers has found.
-- Assumes nothing.
use Rattle.std.proofs.Common.{◌≡◌, ℕ, ◌+◌, Some, None}
use Rattle.words.specs.Words.{Samples}
use Rattle.refusals.specs.declared.range.Pass.{Pass}
use Rattle.refusals.specs.Passes.{AllWithin, FirstAt, OnePass}

module _ {limit : ℕ} {x : Samples} {start N : ℕ} {pass : Pass} (p : OnePass limit x start N pass) where
  pub all_in : pass.place ≡ None → AllWithin limit x start (start + N)
  all_in e = rw e at p.finds

  pub first_at : {place : ℕ} → pass.place ≡ Some place → FirstAt limit x start N place
  first_at e = rw e at p.finds
