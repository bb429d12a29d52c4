-- Document 02, (vi), "Month sums beside the blocks", and (viii), "Road and rail owner on one bridge": the record of a month, its length and
-- the accounts of its parties, and when a call on a month is turned down.
use Rattle.std.specs.Prelude.{Bool, true, false, not, cond, ◌||◌, ◌&&◌, Option, Some, None}
use Rattle.std.specs.Prelude.{List, ◌∷◌, ◌≡◌, ℕ, ◌+◌, ◌-◌, ◌*◌, ◌/◌, eqb, leb, ℤ, pos, negsuc, length, replicate, take, drop}
use Rattle.words.specs.Words.{word}
use Rattle.lengths.specs.Block.{is_length}
use Rattle.refusals.specs.Refusals.{Verdict, refused, accepted}
use Rattle.refusals.specs.Calls.{Call, tests_from_two}
use Rattle.months.specs.Accounts.{account_words, History, Holds, full}

-- ---- the record of a month, 2,055 words of 64 bits:
--   word 0               the mark: 65,536 times the edition, and the length N
--   words 1 .. 1027      the account of party 1
--   words 1028 .. 2054   the account of party 2
abbrev pub month_words : ℕ
month_words = 1 + 2 * account_words

-- "Months begun earlier are closed before the change.": the edition is the version of the library from which on months have this layout and
-- this rule of rounding. Words with another number in word 0, as an earlier version has left there, are no month's
abbrev pub edition : ℕ
edition = 40000

abbrev pub marked : ℕ → ℕ
marked N = 65536 * edition + N

-- "A month is begun for one length N": what stands in word 0 beside the mark. It is 0 where beginning was refused, and of words that are no
-- month's (below the mark the difference is 0, which is no length)
abbrev pub length_in : ℤ → ℕ
length_in (pos n) = let N = n - marked 0 in cond (is_length N) N 0
length_in (negsuc n) = 0

unfoldable pub length_of : List ℤ → ℕ
length_of month = length_in (word month 0)

-- the same with none in place of 0
abbrev pub LengthTold : List ℤ → Option ℕ → Type 0
LengthTold month (Some N) = (length_of month ≡ N) × (is_length N ≡ true)
LengthTold month None = length_of month ≡ 0

-- 15: "when the party is neither 1 nor 2"
abbrev pub unknown_party : ℕ → Bool
unknown_party p = not (eqb p 1 || eqb p 2)

-- "sums and a block number for each of the parties 1 and 2"
abbrev pub account_at : ℕ → ℕ
account_at p = 1 + account_words * (p - 1)

unfoldable pub account : ℕ → List ℤ → List ℤ
account p month = take account_words (drop (account_at p) month)

-- a month that is begun for N, of no blocks of either party; where N is refused every word is 0
abbrev pub new_month : ℕ → List ℤ
new_month N = pos (cond (is_length N) (marked N) 0) ∷ replicate (2 * account_words) (pos 0)

-- all words of a month but those of a party's account are as before
pub record OthersStay (p : ℕ) (month month' : List ℤ) : Type 0 where
  pub mark : word month' 0 ≡ word month 0
  pub accounts : (q : ℕ) → unknown_party q ≡ false → (q ≡ p → ⊥) → account q month' ≡ account q month
  pub len : length month' ≡ length month

-- "Only beginning and adding make a month": so in every month that there is each party's account holds some history
pub record HoldsHistories (month : List ℤ) : Type 0 where
  pub history : ℕ → History
  pub holds : (p : ℕ) → unknown_party p ≡ false → Holds (length_of month) (account p month) (history p)

-- ---- when a call is turned down

-- 13: "when the block's length is not the month's, and always where beginning was refused"
abbrev pub other_length : List ℤ → ℕ → Bool
other_length month N = eqb (length_of month) 0 || not (eqb (length_of month) N)

-- 15, "tested first"; then "Adding tests 13, 14, then 2 to 6."
abbrev pub add_verdict : ℕ → List ℤ → Call → Verdict
add_verdict p month call =
    cond (unknown_party p) (refused 15)
    (cond (other_length month call.N) (refused 13)
    (cond (full (account p month)) (refused 14)
    (tests_from_two call accepted)))

-- ---- reading the block number: 15 alone
abbrev pub number_verdict : ℕ → Verdict
number_verdict p = cond (unknown_party p) (refused 15) accepted

-- ---- reading the sums for k: 15, then 16, "when k is not yielded" by Spectrum for blocks of the month's length; a month of the length 0
-- has none
abbrev pub yielded : List ℤ → ℕ → Bool
yielded month k = not (eqb (length_of month) 0) && leb k (length_of month / 2)

abbrev pub sums_verdict : ℕ → List ℤ → ℕ → Verdict
sums_verdict p month k = cond (unknown_party p) (refused 15) (cond (yielded month k) accepted (refused 16))
