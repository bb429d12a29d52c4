-- Document 01, "The cosine circle": the exact sums, before the division by 2^80, and distances from them.
use Rattle.std.specs.Prelude.{ℕ, ◌+◌, ◌*◌, ◌/◌, ◌≤◌, ℤ, pos, nat_abs, ◌+ℤ◌, ◌-ℤ◌, ◌*ℤ◌}
use Rattle.whole.specs.Sum.{sum}
use Rattle.circle.specs.Circle.{B, K, sine_at}
use Rattle.words.specs.Words.{Samples}

-- "cosine-DFT(k) is the sum of x(n)·K(nk·4096/N)"
unfoldable pub exact_cosine : ℕ → Samples → ℕ → ℤ
exact_cosine N x k = sum N (λ n. x n *ℤ K (n * k * 4096 / N))

-- "sine-DFT(k) of x(n)·K(nk·4096/N − 1024)"; `sine_at p` is K at p − 1,024
unfoldable pub exact_sine : ℕ → Samples → ℕ → ℤ
exact_sine N x k = sum N (λ n. x n *ℤ sine_at (n * k * 4096 / N))

-- "DCT(k) of x(n)·K((2n+1)k·1024/N)"
unfoldable pub exact_dct : ℕ → Samples → ℕ → ℤ
exact_dct N x k = sum N (λ n. x n *ℤ K ((2 * n + 1) * k * 1024 / N))

-- "Pair's exact real(k) is the sum of a(n)·K(nk·4096/N) + b(n)·K(nk·4096/N − 1024)"
unfoldable pub exact_real : ℕ → Samples → Samples → ℕ → ℤ
exact_real N a b k = sum N (λ n. a n *ℤ K (n * k * 4096 / N) +ℤ b n *ℤ sine_at (n * k * 4096 / N))

-- "its exact imaginary(k) that of b(n)·K(nk·4096/N) − a(n)·K(nk·4096/N − 1024)"
unfoldable pub exact_imaginary : ℕ → Samples → Samples → ℕ → ℤ
exact_imaginary N a b k = sum N (λ n. b n *ℤ K (n * k * 4096 / N) -ℤ a n *ℤ sine_at (n * k * 4096 / N))

-- ---- distances

-- "let y be the number in the result word and E the exact sum before the division by 2^80. The distance is the size, without sign, of
-- y·2^80 − E."
abbrev pub distance : ℤ → ℤ → ℕ
distance y E = nat_abs (y *ℤ pos B -ℤ E)

-- a limit, as a fraction
pub record Limit : Type 0 where
  pub over : ℕ
  pub under : ℕ

-- N/8
abbrev pub eighth : ℕ → Limit
eighth N = record { over = N; under = 8 }

-- (N + 1)/4
abbrev pub quarter_of_next : ℕ → Limit
quarter_of_next N = record { over = N + 1; under = 4 }

-- N/4
abbrev pub quarter : ℕ → Limit
quarter N = record { over = N; under = 4 }

-- "Within N/8 means that 8 times the distance is at most N·2^80; within (N + 1)/4, that 4 times it is at most (N + 1)·2^80; within N/4,
-- that 4 times it is at most N·2^80."
pub record Within (limit : Limit) (y E : ℤ) : Type 0 where
  pub near : limit.under * distance y E ≤ limit.over * B
