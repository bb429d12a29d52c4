-- The cosines of the DCT-II over K are orthogonal, as nearly as the circle's addition law holds, and so its exact sums determine the block.
-- N is 2 ^ L.
use Rattle.std.specs.Prelude.{◌≡◌, ℕ, ◌+◌, ◌-◌, ◌*◌, ◌/◌, ◌≤◌, ℤ, pos, nat_abs, ◌+ℤ◌, ◌-ℤ◌, ◌*ℤ◌}
use Rattle.whole.specs.Sum.{sum}
use Rattle.circle.specs.Circle.{B, K}
use Rattle.circle.specs.Laws.{addition_error}
use Rattle.words.specs.Words.{Samples}
use Rattle.ffct.specs.Exact.{exact_dct}

-- the sum of K((2m+1)k·1024/N)·K((2n+1)k·1024/N) over k = 0 .. N − 1
unfoldable pub cosine_product : ℕ → ℕ → ℕ → ℤ
cosine_product N m n = sum N (λ k. K ((2 * m + 1) * k * 1024 / N) *ℤ K ((2 * n + 1) * k * 1024 / N))

-- what the errors of the addition law, at two places for each k, may add up to
abbrev pub orthogonal_error : ℕ → ℕ
orthogonal_error N = N * (2 * (addition_error * B))

-- twice that sum, less its term at k = 0, which is B²: it is N·B² where m = n, and 0 where not, within that error
pub record Orthogonal (N m n : ℕ) : Type 0 where
  pub same : m ≡ n → nat_abs (pos 2 *ℤ cosine_product N m n -ℤ pos (B * B) -ℤ pos (N * (B * B))) ≤ orthogonal_error N
  pub other : (m ≡ n → ⊥) → nat_abs (pos 2 *ℤ cosine_product N m n -ℤ pos (B * B)) ≤ orthogonal_error N

-- the inverse DCT over K, of sums E(0) .. E(N − 1): E(0)·B and twice the sum of E(k)·K((2n+1)k·1024/N) over k = 1 .. N − 1
unfoldable pub exact_inverse : ℕ → (ℕ → ℤ) → ℕ → ℤ
exact_inverse N E n = E 0 *ℤ pos B +ℤ pos 2 *ℤ sum (N - 1) (λ i. E (i + 1) *ℤ K ((2 * n + 1) * (i + 1) * 1024 / N))

-- of the exact sums of a block whose samples are at most X in size, at n: it is N·B² times the sample x(n), within N·X times that error
pub record Inverts (N : ℕ) (x : Samples) (X n : ℕ) : Type 0 where
  pub near : nat_abs (exact_inverse N (exact_dct N x) n -ℤ x n *ℤ pos (N * (B * B))) ≤ N * (X * orthogonal_error N)
