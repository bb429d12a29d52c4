-- Document 02, (vi) and (viii): what a month holds of one party, its account. The words of an account, what adding does to them, the
-- history of the party's blocks, what it means that an account holds a history, and when it is full.
use Rattle.std.specs.Prelude.{Bool, cond, List, [], ◌∷◌, ◌≡◌, ℕ, ◌+◌, ◌*◌, ◌/◌, ◌^◌, ◌≤◌, ◌<◌, ℤ, pos, ◌+ℤ◌, length}
use Rattle.std.specs.Int.Signed.{le_z}
use Rattle.words.specs.Words.{Samples, word}
use Rattle.lengths.specs.Block.{AcceptedBlock, level}
use Rattle.ffct.specs.Exact.{exact_cosine, exact_sine, Limit}
use Rattle.ffct.specs.Transforms.{spectrum}
use Rattle.refusals.specs.Refusals.{at_most}

-- ---- an account, 1,027 words of 64 bits:
--   word 0             the block number
--   words 1 .. 513     the sums of the cosine coefficients, k = 0 .. 512
--   words 514 .. 1026  the sums of the sine coefficients, k = 0 .. 512
abbrev pub account_words : ℕ
account_words = 1027

-- "one to the block number": word 0
abbrev pub block_number : List ℤ → ℤ
block_number account = word account 0

-- "a running 64-bit sum for its k", k = 0 .. 512: of the cosine coefficients from word 1 on, of the sine coefficients from word 514 on
abbrev pub cosine_sum : List ℤ → ℕ → ℤ
cosine_sum account k = word account (1 + k)

abbrev pub sine_sum : List ℤ → ℕ → ℤ
sine_sum account k = word account (514 + k)

-- ---- adding: "adds each coefficient to a running 64-bit sum for its k, and one to the block number". No sum of an account is beyond 2^62
-- in size (`Laws`). Where lent words that are no month's hold such a number, it stays
unfoldable pub plus : ℤ → ℤ → ℤ
plus sum coefficient = cond (at_most (2 ^ 62) sum) (sum +ℤ coefficient) sum

-- every word of an account after a block of N samples with the coefficients c and s was added
pub record BlockAdded (N : ℕ) (c s : Samples) (account account' : List ℤ) : Type 0 where
  pub number : block_number account' ≡ block_number account +ℤ pos 1
  pub cosine : (k : ℕ) → k ≤ N / 2 → cosine_sum account' k ≡ plus (cosine_sum account k) (c k)
  pub sine : (k : ℕ) → k ≤ N / 2 → sine_sum account' k ≡ plus (sine_sum account k) (s k)
  pub beyond : (k : ℕ) → N / 2 < k → k < 513 → (cosine_sum account' k ≡ cosine_sum account k) × (sine_sum account' k ≡ sine_sum account k)
  pub len : length account' ≡ length account

-- ---- "the history of accepted blocks": the samples of each, in the order in which they were added
abbrev pub History : Type 0
History = List Samples

-- the sum of f over the blocks of a history
unfoldable pub sum_over : (Samples → ℤ) → History → ℤ
sum_over f [] = pos 0
sum_over f (x ∷ history) = f x +ℤ sum_over f history

-- every block of a history is an accepted block of N samples
unfoldable pub AllAccepted : ℕ → History → Type 0
AllAccepted N [] = Unit
AllAccepted N (x ∷ history) = AcceptedBlock (level N) x × AllAccepted N history

-- "Each may add 50,000 blocks, and that replaces the 100,000 of 14."
abbrev pub most_blocks : ℕ
most_blocks = 50000

-- "After any calls the sums equal those over the history of accepted blocks": an account holds a history of blocks of N samples. Where no
-- block has a coefficient, beyond k = N / 2, it holds 0
pub record Holds (N : ℕ) (account : List ℤ) (history : History) : Type 0 where
  pub blocks : AllAccepted N history
  pub number : block_number account ≡ pos (length history)
  pub at_most : length history ≤ most_blocks
  pub cosine : (k : ℕ) → k ≤ N / 2 → cosine_sum account k ≡ sum_over (λ x. (spectrum (level N) x).cosine k) history
  pub sine : (k : ℕ) → k ≤ N / 2 → sine_sum account k ≡ sum_over (λ x. (spectrum (level N) x).sine k) history
  pub beyond : (k : ℕ) → N / 2 < k → k < 513 → (cosine_sum account k ≡ pos 0) × (sine_sum account k ≡ pos 0)

-- ---- the exact sums of an account over K, before the division by 2^80
abbrev pub exact_cosine_sum : ℕ → History → ℕ → ℤ
exact_cosine_sum N history k = sum_over (λ x. exact_cosine N x k) history

abbrev pub exact_sine_sum : ℕ → History → ℕ → ℤ
exact_sine_sum N history k = sum_over (λ x. exact_sine N x k) history

-- n·N/8. "The n in the distance of a sum is that party's number of blocks."
abbrev pub eighths : ℕ → ℕ → Limit
eighths n N = record { over = n * N; under = 8 }

-- ---- 14: "when the month holds" as many blocks of the party as it may
abbrev pub full : List ℤ → Bool
full account = le_z (pos most_blocks) (block_number account)
