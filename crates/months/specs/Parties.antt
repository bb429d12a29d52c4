-- The parties as the code has them: a number is taken for the party that has it, and refused where none has.
use Rattle.std.specs.Prelude.{Result, Ok, Err, true, ◌≡◌, ℕ}
use Rattle.refusals.specs.declared.refusal.Refusal.{Refusal}
use Rattle.refusals.specs.declared.refusal.Refusal.TheVariants.{UnknownParty}
use Rattle.months.specs.declared.party.Party.{Party}
use Rattle.months.specs.declared.party.Party.TheVariants.{First, Second}
use Rattle.months.specs.Months.{unknown_party}

-- "the parties 1 and 2"
abbrev pub number_of : Party → ℕ
number_of First = 1
number_of Second = 2

abbrev pub PartyOf : ℕ → Result Party Refusal → Type 0
PartyOf p (Ok party) = number_of party ≡ p
PartyOf p (Err refusal) = (unknown_party p ≡ true) × (refusal ≡ UnknownParty)
