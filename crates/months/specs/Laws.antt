-- What is proved of months, as statements: of every account that holds a history (proofs/Holding), and of a month whose beginning was
-- refused (proofs/Beginning).
use Rattle.std.specs.Prelude.{false, List, ◌≡◌, ℕ, ◌*◌, ◌/◌, ◌^◌, ◌≤◌, ℤ, nat_abs, length}
use Rattle.lengths.specs.Block.{is_length}
use Rattle.ffct.specs.Exact.{Within}
use Rattle.refusals.specs.Refusals.{refused}
use Rattle.refusals.specs.Calls.{Call}
use Rattle.months.specs.Accounts.{cosine_sum, sine_sum, History, exact_cosine_sum, exact_sine_sum, eighths}
use Rattle.months.specs.Months.{unknown_party, new_month, add_verdict}

-- "With n blocks, each sum is within n·N/8 of the exact one."
pub record AccountLimits (N : ℕ) (account : List ℤ) (history : History) : Type 0 where
  pub cosine : (k : ℕ) → k ≤ N / 2 → Within (eighths (length history) N) (cosine_sum account k) (exact_cosine_sum N history k)
  pub sine : (k : ℕ) → k ≤ N / 2 → Within (eighths (length history) N) (sine_sum account k) (exact_sine_sum N history k)

-- no sum is beyond n·2^31 in size: nothing overflows, and `plus` is a plain sum
pub record SumsFit (N : ℕ) (account : List ℤ) (history : History) : Type 0 where
  pub cosine : (k : ℕ) → k ≤ N / 2 → nat_abs (cosine_sum account k) ≤ length history * 2 ^ 31
  pub sine : (k : ℕ) → k ≤ N / 2 → nat_abs (sine_sum account k) ≤ length history * 2 ^ 31

-- "always where beginning was refused": every adding to such a month, by either party, is turned down by 13
abbrev pub AlwaysOther : Type 0
AlwaysOther = (N p : ℕ) (call : Call) → is_length N ≡ false → unknown_party p ≡ false → add_verdict p (new_month N) call ≡ refused 13
