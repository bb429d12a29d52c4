-- Document 02, (vi), "After any calls the sums equal those over the history of accepted blocks", and (viii): runs. A run is a month begun
-- and then any calls of adding and reading, by any party, accepted or refused. Of each call it has the promise that the call keeps
-- (Promises), and nothing else. `AfterAnyCalls` is proved of every run (proofs/Runs).
use Rattle.std.specs.Prelude.{false, cond, List, [], ◌∷◌, ◌++◌, ◌≡◌, ℕ, eqb, ℤ, Result, ⊤}
use Rattle.words.specs.Words.{Samples}
use Rattle.lengths.specs.Block.{is_length}
use Rattle.counts.specs.declared.tally.Tally.{Tally}
use Rattle.refusals.specs.declared.refusal.Refusal.{Refusal}
use Rattle.refusals.specs.Refusals.{Verdict, refused_at, accepted}
use Rattle.refusals.specs.Answers.{answered}
use Rattle.spectra.specs.Promises.{Buffers}
use Rattle.months.specs.declared.account.Sums.{Sums}
use Rattle.months.specs.Accounts.{History, Holds}
use Rattle.months.specs.Months.{length_of, unknown_party, account}
use Rattle.months.specs.Promises.{Given, block_of, BeginPromise, AddPromise, NumberPromise, SumsPromise}
use Rattle.months.specs.Laws.{AccountLimits}

-- ---- the calls of a party
pub data PartyCall : Type 0 where
  add : Given → PartyCall
  read_number : PartyCall
  read_sums : (k : ℕ) → PartyCall
  read_length : PartyCall

-- all that the party sees of a call: the answer and, of adding, what is left in the buffers
pub data Seen : Type 0 where
  added : Result Tally Refusal → (lent' : Buffers) → Seen
  number_read : Result ℤ Refusal → Seen
  sums_read : Result Sums Refusal → Seen
  length_read : ℕ → Seen

-- a call of the party p keeps its promise: the month before it, the call, the month after it, what is seen
pub data Keeps (p : ℕ) (month : List ℤ) : PartyCall → List ℤ → Seen → Type 0 where
  adds : (g : Given) (month' : List ℤ) (lent' : Buffers) (answer : Result Tally Refusal) → AddPromise p g month month' lent' answer
      → Keeps p month (add g) month' (added answer lent')
  tells_number : (answer : Result ℤ Refusal) → NumberPromise p month answer → Keeps p month read_number month (number_read answer)
  tells_sums : (k : ℕ) (answer : Result Sums Refusal) → SumsPromise p month k answer → Keeps p month (read_sums k) month (sums_read answer)
  tells_length : Keeps p month read_length month (length_read (length_of month))

-- ---- runs. A call that was made
pub record Made : Type 0 where
  pub party : ℕ
  pub call : PartyCall
  pub seen : Seen

-- calls one after another: the month before the first, the calls, the month after the last
pub data Calls : List ℤ → List Made → List ℤ → Type 0 where
  none : {month : List ℤ} → Calls month [] month
  more : {month next last : List ℤ} (made : Made) {later : List Made} → Keeps made.party month made.call next made.seen
      → Calls next later last → Calls month (made ∷ later) last

-- a month begun for N, and the calls on it; `month` is what they leave
pub record Run (N : ℕ) (made : List Made) (month : List ℤ) : Type 0 where
  pub start : List ℤ
  pub answer : Result ⊤ Refusal
  pub begun : BeginPromise N start answer
  pub calls : Calls start made month

-- ---- the history of a party in a run: the blocks of its accepted calls of adding, in their order
abbrev pub verdict_seen : Seen → Verdict
verdict_seen (added answer lent') = answered answer
verdict_seen (number_read answer) = answered answer
verdict_seen (sums_read answer) = answered answer
verdict_seen (length_read N) = accepted

abbrev pub if_accepted : Verdict → Samples → History
if_accepted (refused_at n i) x = []
if_accepted accepted x = x ∷ []

abbrev pub block_in : PartyCall → Seen → History
block_in (add g) seen = if_accepted (verdict_seen seen) (block_of g)
block_in read_number seen = []
block_in (read_sums k) seen = []
block_in read_length seen = []

unfoldable pub history_of : ℕ → List Made → History
history_of p [] = []
history_of p (made ∷ later) = cond (eqb made.party p) (block_in made.call made.seen) [] ++ history_of p later

-- after any calls each account holds exactly the history of that party, and its sums are near the exact ones by that party's number of
-- blocks
pub record AfterAnyCalls (N : ℕ) (made : List Made) (month : List ℤ) : Type 0 where
  pub length : length_of month ≡ cond (is_length N) N 0
  pub holds : (p : ℕ) → unknown_party p ≡ false → Holds (length_of month) (account p month) (history_of p made)
  pub limits : (p : ℕ) → unknown_party p ≡ false → AccountLimits (length_of month) (account p month) (history_of p made)
