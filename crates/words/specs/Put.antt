-- Bytes that are put into a lent buffer: a text into a page, the numbers of a file.
use Rattle.std.specs.Prelude.{List, [], ◌++◌, ◌≡◌, ℕ, zero, suc, ◌+◌, ◌≤◌, length, take, drop}

-- the bytes now stand from `at` on; those before and those behind are as they were, and `next` is the place behind them. (The last two
-- fields follow from the others where `at` is within the buffer; they are there for who lends what was put.)
pub record Put (before : List ℕ) (at : ℕ) (bytes : List ℕ) (next : ℕ) (after : List ℕ) : Type 0 where
  pub next_is : next ≡ at + length bytes
  pub front : take next after ≡ take at before ++ bytes
  pub rest : drop next after ≡ drop next before
  pub len : length after ≡ length before
  -- they end within the buffer, in the two ways that lending `&page[..next]` asks for it
  pub room : next ≤ length after
  pub counts : next ≡ length (take next after)

-- the texts f 0, f 1, .. f (n - 1), one behind another
unfoldable pub joined : (ℕ → List ℕ) → ℕ → List ℕ
joined f zero = []
joined f (suc n) = joined f n ++ f n
