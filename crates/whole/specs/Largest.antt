-- The largest of some numbers.
use Rattle.std.specs.Prelude.{ℕ, zero, suc, max}

-- the largest of f n over n = 0 .. N - 1; 0 where there is none
unfoldable pub largest : ℕ → (ℕ → ℕ) → ℕ
largest zero f = 0
largest (suc N) f = max (largest N f) (f N)
