-- What a step adds to the tally that it is handed.
use Rattle.std.specs.Prelude.{◌≡◌, ℕ, ◌+◌, ◌^◌, ◌≤◌, max}
use Rattle.ffct.specs.Transforms.{Transform}
use Rattle.counts.specs.declared.tally.Tally.{Tally}

-- nothing made yet
abbrev pub none : Tally
none = record { products = 0; sums = 0; largest_rest = 0 }

-- p products and a sums more, and roundings whose largest rest is r in size
pub record Tallied (p a r : ℕ) (before after : Tally) : Type 0 where
  pub products : after.products ≡ before.products + p
  pub sums : after.sums ≡ before.sums + a
  pub rest : after.largest_rest ≡ max before.largest_rest r

-- what a transform t makes
abbrev pub TalliedAs : Transform → Tally → Tally → Type 0
TalliedAs t before after = Tallied t.products t.sums t.largest_rest before after

-- a sums more, and nothing else
pub record Summed (a : ℕ) (before after : Tally) : Type 0 where
  pub products : after.products ≡ before.products
  pub sums : after.sums ≡ before.sums + a
  pub rest : after.largest_rest ≡ before.largest_rest

-- a tally that has room for p products and a sums
pub record HasRoom (p a : ℕ) (tally : Tally) : Type 0 where
  pub products : tally.products + p ≤ 2 ^ 32
  pub sums : tally.sums + a ≤ 2 ^ 32
