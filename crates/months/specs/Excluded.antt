-- Wrong outcomes that the promises of months exclude, each at one named input; and two laws that would say too much.
use Rattle.std.specs.Prelude.{List, [], ◌∷◌, ◌++◌, ◌≡◌, ℕ, ℤ, pos, length, replicate, Result, ⊤}
use Rattle.words.specs.Words.{word}
use Rattle.lengths.specs.Block.{spectrum_yields}
use Rattle.ffct.specs.Exact.{Within}
use Rattle.counts.specs.declared.tally.Tally.{Tally}
use Rattle.refusals.specs.declared.refusal.Refusal.{Refusal}
use Rattle.refusals.specs.Refusals.{scratch_words, number}
use Rattle.refusals.specs.Answers.{answered}
use Rattle.refusals.specs.Exclusion.{nines, Never}
use Rattle.spectra.specs.Promises.{Buffers, buffers}
use Rattle.months.specs.declared.account.Sums.{Sums}
use Rattle.months.specs.Accounts.{block_number, cosine_sum, sine_sum, History, Holds, eighths, exact_cosine_sum}
use Rattle.months.specs.Months.{marked, length_of, account, new_month}
use Rattle.months.specs.Answers.{blocks_of, sums_of}
use Rattle.months.specs.Promises.{given, BeginPromise, AddPromise, NumberPromise, SumsPromise}
use Rattle.months.specs.Runs.{Made, Run}
use Rattle.months.specs.Isolation.{calls_of, seen_by}

-- a month for N in which the parties have these block numbers, each with the cosine sum 7 for k = 0, and all other sums 0
abbrev account_of : ℕ → List ℤ
account_of blocks = pos blocks ∷ pos 7 ∷ replicate 1025 (pos 0)

abbrev month : (N one two : ℕ) → List ℤ
month N one two = pos (marked N) ∷ (account_of one ++ account_of two)

-- a record of an earlier version, with its length alone in word 0, at the front of one of today's size
abbrev earlier : ℕ → List ℤ
earlier N = pos N ∷ pos 1 ∷ pos 7 ∷ replicate 2052 (pos 0)

-- ---- beginning, whatever stood in the words before
module _ (month' : List ℤ) (answer : Result ⊤ Refusal) where
  pub record BeginExcluded : Type 0 where
    -- "Beginning with a bad length gives 1"; a month for 8 that was there stays usable; the old sums are left, of either party
    pub bad_begun : Never (BeginPromise 3 month' answer) (number (answered answer)) 0
    pub old_usable : Never (BeginPromise 3 month' answer) (length_of month') 8
    pub old_sums : Never (BeginPromise 8 month' answer) (cosine_sum (account 1 month') 0) (pos 7)
    pub only_one : Never (BeginPromise 8 month' answer) (block_number (account 2 month')) (pos 1)
    -- the length alone in word 0, as an earlier version has it
    pub unmarked : Never (BeginPromise 8 month' answer) (word month' 0) (pos 8)

-- ---- adding
module _ (month' : List ℤ) (lent : Buffers) (answer : Result Tally Refusal) where
  abbrev Add : ℕ → List ℤ → (recording : List ℤ) → (start N : ℕ) → Type 0
  Add p before recording start N =
      let results = nines (spectrum_yields N) in
      AddPromise p (given recording start N 0 (buffers results results (nines (scratch_words N)))) before month' lent answer

  pub record AddExcluded : Type 0 where
    -- "A refused block leaves the month unchanged.": it is not counted. An accepted one is, and its coefficients, 4 and 2, are added;
    -- 1 is added to the block number and not to the first sum
    pub refused_counted : Never (Add 1 (new_month 2) (pos 0 ∷ pos 1000001 ∷ []) 0 2) (block_number (account 1 month')) (pos 1)
    pub not_counted : Never (Add 1 (new_month 2) (pos 3 ∷ pos 1 ∷ []) 0 2) (block_number (account 1 month')) (pos 0)
    pub last_left_out : Never (Add 2 (new_month 2) (pos 3 ∷ pos 1 ∷ []) 0 2) (cosine_sum (account 2 month') 1) (pos 0)
    pub counted_in_a_sum : Never (Add 1 (new_month 1) (pos 3 ∷ []) 0 1) (cosine_sum (account 1 month') 0) (pos 4)
    pub to_the_sines : Never (Add 1 (new_month 1) (pos 3 ∷ []) 0 1) (sine_sum (account 1 month') 0) (pos 3)
    pub first_block_again : Never (Add 1 (new_month 1) (pos 3 ∷ pos 5 ∷ []) 1 1) (cosine_sum (account 1 month') 0) (pos 3)
    -- "sums and a block number for each of the parties": party 2's block in party 1's sums, or counted there; so is a refusal of party 2
    pub to_the_other : Never (Add 2 (new_month 1) (pos 3 ∷ []) 0 1) (cosine_sum (account 1 month') 0) (pos 3)
    pub counted_there : Never (Add 2 (new_month 1) (pos 3 ∷ []) 0 1) (block_number (account 1 month')) (pos 1)
    pub refused_there : Never (Add 2 (new_month 1) (pos 1000001 ∷ []) 0 1) (block_number (account 1 month')) (pos 1)
    -- "15 when the party is neither 1 nor 2, tested first": party 3 taken as party 2, party 0 as party 1; 15 behind 13
    pub three_as_two : Never (Add 3 (new_month 1) (pos 3 ∷ []) 0 1) (number (answered answer)) 0
    pub zero_as_one : Never (Add 0 (new_month 1) (pos 3 ∷ []) 0 1) (number (answered answer)) 0
    pub thirteen_first : Never (Add 3 (new_month 1) (pos 3 ∷ pos 1 ∷ []) 0 2) (number (answered answer)) 13
    -- "Adding tests 13, 14, then 2 to 6.": 14 before 13; 1 where beginning was refused
    pub fourteen_first : Never (Add 1 (month 1 50000 0) (pos 3 ∷ pos 1 ∷ []) 0 2) (number (answered answer)) 14
    pub not_always_other : Never (Add 1 (new_month 3) (pos 3 ∷ []) 0 3) (number (answered answer)) 1
    -- "Each may add 50,000 blocks": one more; 14 by the blocks of both parties, and by those of the other
    pub one_more : Never (Add 1 (month 1 50000 0) (pos 3 ∷ []) 0 1) (number (answered answer)) 0
    pub by_both : Never (Add 1 (month 1 30000 30000) (pos 3 ∷ []) 0 1) (number (answered answer)) 14
    pub by_the_other : Never (Add 1 (month 1 0 50000) (pos 3 ∷ []) 0 1) (number (answered answer)) 14
    -- "Months begun earlier are closed before the change.": a record of an earlier version goes on
    pub earlier_goes_on : Never (Add 1 (earlier 1) (pos 3 ∷ []) 0 1) (number (answered answer)) 0
    pub earlier_written : Never (Add 1 (earlier 1) (pos 3 ∷ []) 0 1) (word month' 2) (pos 10)

-- ---- reading
module _ (told : Result ℤ Refusal) (answer : Result Sums Refusal) where
  pub record ReadExcluded : Type 0 where
    -- the block number of the other party; that of a party 3; a sum's place read for it
    pub number_of_other : Never (NumberPromise 1 (month 2 1 5) told) (blocks_of told) (pos 5)
    pub number_of_three : Never (NumberPromise 3 (month 2 1 5) told) (number (answered told)) 0
    pub number_of_sum : Never (NumberPromise 1 (month 2 1 5) told) (blocks_of told) (pos 7)
    -- the sums exchanged; the last k refused; one more given; 16 before 15
    pub exchanged : Never (SumsPromise 2 (month 2 1 5) 0 answer) (sums_of answer).sine (pos 7)
    pub last_refused : Never (SumsPromise 2 (month 2 1 5) 1 answer) (number (answered answer)) 16
    pub one_more : Never (SumsPromise 2 (month 2 1 5) 2 answer) (number (answered answer)) 0
    pub sixteen_first : Never (SumsPromise 3 (month 2 1 5) 2 answer) (number (answered answer)) 16
    -- a number that is no length, read as one; the length that is there, lost; that of an earlier version, read
    pub any_length : length_of (month 3 1 5) ≡ 3 → ⊥
    pub length_lost : length_of (month 2 1 5) ≡ 0 → ⊥
    pub earlier_length : length_of (earlier 2) ≡ 2 → ⊥

-- ---- laws that would say too much
-- 1,000,000 at n = 1, else 0, at N = 8
abbrev P8 : ℕ → ℤ
P8 = word (pos 0 ∷ pos 1000000 ∷ replicate 6 (pos 0))

-- "The n in the distance of a sum is that party's number of blocks.": party 1 has added P8 and party 2 nothing, and n is the other's
abbrev pub OthersNumber : List ℤ → Type 0
OthersNumber month =
    let one : History = P8 ∷ [] in
    let two : History = [] in
    Holds 8 (account 1 month) one → Holds 8 (account 2 month) two
    → Within (eighths (length two) 8) (cosine_sum (account 1 month) 1) (exact_cosine_sum 8 one 1) → ⊥

-- isolation of party 1 whose conclusion covers what party 2 sees, too
abbrev pub OthersSee : Type 0
OthersSee =
    ((N : ℕ) (made made' : List Made) (month month' : List ℤ) → Run N made month → Run N made' month' → calls_of 1 made ≡ calls_of 1 made'
    → seen_by 2 made ≡ seen_by 2 made') → ⊥
