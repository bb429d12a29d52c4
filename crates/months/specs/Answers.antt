-- What the answers of reading tell: of a party's block number, and of its sums for a k.
use Rattle.std.specs.Prelude.{Result, Ok, Err, ◌*◌, ◌^◌, ◌≤◌, ℤ, pos, nat_abs}
use Rattle.refusals.specs.declared.refusal.Refusal.{Refusal}
use Rattle.months.specs.declared.account.Sums.{Sums}
use Rattle.months.specs.Accounts.{most_blocks}

-- the block number; else 0
abbrev pub blocks_of : Result ℤ Refusal → ℤ
blocks_of (Err refusal) = pos 0
blocks_of (Ok n) = n

-- the two sums; else 0 for each
abbrev pub sums_of : Result Sums Refusal → Sums
sums_of (Err refusal) = record { cosine = pos 0; sine = pos 0 }
sums_of (Ok sums) = sums

-- each sum is at most 2^31 in size for each block that a party may add, and so is every sum that is told of a month by value
abbrev pub SmallSums : Sums → Type 0
SmallSums sums = (nat_abs sums.cosine ≤ most_blocks * 2 ^ 31) × (nat_abs sums.sine ≤ most_blocks * 2 ^ 31)
