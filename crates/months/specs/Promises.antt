-- What beginning, adding and reading promise, for every input. Words after the call are marked '; p is the party.
use Rattle.std.specs.Prelude.{false, not, cond, List, [], ◌∷◌, ◌++◌, ◌≡◌, ℕ, ℤ, Result, ⊤}
use Rattle.words.specs.Words.{Samples}
use Rattle.lengths.specs.Block.{is_length, level}
use Rattle.ffct.specs.Transforms.{spectrum as spectrum_of}
use Rattle.counts.specs.declared.tally.Tally.{Tally}
use Rattle.refusals.specs.declared.refusal.Refusal.{Refusal}
use Rattle.refusals.specs.Refusals.{block, refused, accepted, Promise}
use Rattle.refusals.specs.Answers.{answered}
use Rattle.refusals.specs.Calls.{Call, verdict}
use Rattle.spectra.specs.Answers.{spent}
use Rattle.spectra.specs.Promises.{Buffers, spectrum_call, SpectrumDone}
use Rattle.months.specs.declared.Month.{Month}
use Rattle.months.specs.declared.Begun.{Begun}
use Rattle.months.specs.declared.account.Sums.{Sums}
use Rattle.months.specs.Accounts.{History, Holds, BlockAdded, full, block_number, cosine_sum, sine_sum}
use Rattle.months.specs.Months.{length_of, unknown_party, account, new_month, OthersStay, HoldsHistories}
use Rattle.months.specs.Months.{add_verdict, number_verdict, sums_verdict}
use Rattle.months.specs.Answers.{blocks_of, sums_of}

-- ---- beginning. "Beginning with a bad length gives 1", with a month of the length 0. Each party's account holds the empty history
pub record BeginPromise (N : ℕ) (month' : List ℤ) (answer : Result ⊤ Refusal) : Type 0 where
  pub verdict : answered answer ≡ cond (not (is_length N)) (refused 1) accepted
  pub words : month' ≡ new_month N
  pub length : length_of month' ≡ cond (is_length N) N 0
  pub empty : (p : ℕ) → unknown_party p ≡ false → Holds (length_of month') (account p month') []

-- ---- what adding is given, beside the party and the month: all that Spectrum is
pub record Given : Type 0 where
  pub recording : List ℤ
  pub start : ℕ
  pub N : ℕ
  pub allowance : ℕ
  pub lent : Buffers

abbrev pub given : List ℤ → (start N allowance : ℕ) → Buffers → Given
given recording start N allowance lent =
    record { recording = recording; start = start; N = N; allowance = allowance; lent = lent }

abbrev pub block_of : Given → Samples
block_of g = block g.recording g.start

abbrev pub call_of : Given → Call
call_of g = spectrum_call g.recording g.start g.N g.allowance g.lent

-- ---- adding to an account. "Adding a block runs Spectrum, with its buffers, allowance and answer". For every history that the account
-- holds, it now holds the history with this block at its end
pub record AccountDone (g : Given) (account account' : List ℤ) (lent' : Buffers) (answer : Result Tally Refusal) : Type 0 where
  pub spectrum : SpectrumDone g.N (block_of g) g.allowance g.lent lent' (spent answer)
  pub words : let t = spectrum_of (level g.N) (block_of g) in BlockAdded g.N t.cosine t.sine account account'
  pub holds : (history : History) → Holds g.N account history → Holds g.N account' (history ++ (block_of g ∷ []))

abbrev pub AccountPromise : Given → (account account' : List ℤ) → (lent' : Buffers) → Result Tally Refusal → Type 0
AccountPromise g account account' lent' answer =
    Promise (answered answer) (cond (full account) (refused 14) (verdict (call_of g)))
    ((account' ≡ account) × (lent' ≡ g.lent))
    (AccountDone g account account' lent' answer)

-- ---- adding to a month, for the party p: to that party's account alone
pub record AddDone (p : ℕ) (g : Given) (month month' : List ℤ) (lent' : Buffers) (answer : Result Tally Refusal) : Type 0 where
  pub own : AccountDone g (account p month) (account p month') lent' answer
  pub others : OthersStay p month month'

-- "A refused block leaves the month unchanged."
abbrev pub AddPromise : ℕ → Given → (month month' : List ℤ) → (lent' : Buffers) → Result Tally Refusal → Type 0
AddPromise p g month month' lent' answer =
    Promise (answered answer) (add_verdict p month (call_of g))
    ((month' ≡ month) × (lent' ≡ g.lent))
    (AddDone p g month month' lent' answer)

-- of a party that is known, whatever the month's length: the promise of its account, and all other words stay
pub record ForParty (p : ℕ) (g : Given) (month month' : List ℤ) (lent' : Buffers) (answer : Result Tally Refusal) : Type 0 where
  pub own : AccountPromise g (account p month) (account p month') lent' answer
  pub others : OthersStay p month month'

-- ---- reading a party's block number, and its sums for k
pub record NumberPromise (p : ℕ) (month : List ℤ) (answer : Result ℤ Refusal) : Type 0 where
  pub verdict : answered answer ≡ number_verdict p
  pub number : answered answer ≡ accepted → blocks_of answer ≡ block_number (account p month)

pub record SumsPromise (p : ℕ) (month : List ℤ) (k : ℕ) (answer : Result Sums Refusal) : Type 0 where
  pub verdict : answered answer ≡ sums_verdict p month k
  pub sums : answered answer ≡ accepted
      → sums_of answer ≡ record { cosine = cosine_sum (account p month) k; sine = sine_sum (account p month) k }

-- ---- months by value. In each there stand histories, the type's own fact
abbrev pub Held : Month → Type 0
Held month = HoldsHistories month.words

pub record Beginning (N : ℕ) (begun : Begun) : Type 0 where
  pub promise : BeginPromise N begun.month.words begun.answer
  pub held : Held begun.month

pub record Adding (p : ℕ) (g : Given) (month month' : Month) (lent' : Buffers) (answer : Result Tally Refusal) : Type 0 where
  pub promise : AddPromise p g month.words month'.words lent' answer
  pub held : Held month → Held month'
