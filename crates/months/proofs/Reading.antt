-- What reading the sums for a k promises, where they are told.
-- Assumes nothing.
use mathlib.Core.Path.{◌≡◌, refl}
use mathlib.Core.Bool.{true}
use mathlib.Core.List.{List}
use Prim.Native.Nat.{ℕ, ◌/◌, ◌≤◌}
use lib.IntN.{ℤ}
use borrow.Author.Tests.{ne_eqb, le-leb}
use Rattle.std.specs.Prelude.{Ok}
use Rattle.lengths.specs.Block.{is_length}
use Rattle.months.specs.declared.account.Sums.{Sums}
use Rattle.months.specs.declared.party.Party.{Party}
use Rattle.months.specs.Accounts.{cosine_sum, sine_sum}
use Rattle.months.specs.Months.{length_of, account}
use Rattle.months.specs.Parties.{number_of}
use Rattle.months.specs.Promises.{SumsPromise}
use Rattle.months.proofs.Lengths.{length_positive}
use Rattle.months.proofs.Parties.{known_party}

pub sums_told : (party : Party) {p : ℕ} {month : List ℤ} {k N : ℕ} {sums : Sums} → number_of party ≡ p
    → (length_of month ≡ N) × (is_length N ≡ true) → k ≤ N / 2
    → sums ≡ record { cosine = cosine_sum (account (number_of party) month) k; sine = sine_sum (account (number_of party) month) k }
    → SumsPromise p month k (Ok sums)
sums_told party {N = N} at (length, is) inside e =
    rw (← at) (record {
      verdict = rw (known_party party, length, ne_eqb N 0 (length_positive is), le-leb _ _ inside) refl;
      sums = λ _. e;
    })
