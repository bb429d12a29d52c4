-- Document 02, (i), "Strain back from a stored cosine block": the inverse of the DCT-II, and when a stored block is turned down.
-- c are the coefficients, "Coefficient k is in word k"; N is the block length.
use Rattle.std.specs.Prelude.{cond, List, [], ◌∷◌, ℕ, ◌+◌, ◌-◌, ◌*◌, ◌/◌, ◌^◌, ltb, ℤ, pos, ◌+ℤ◌, ◌*ℤ◌, length}
use Rattle.whole.specs.Round.{nearest}
use Rattle.whole.specs.Sum.{sum}
use Rattle.words.specs.Words.{word}
use Rattle.circle.specs.Circle.{T, on_circle}
use Rattle.refusals.specs.Refusals.{Verdict, refused, accepted, first_beyond_or}
use Rattle.refusals.specs.Calls.{stored_tests}

-- "T goes round the circle by K's symmetries.": T itself at the places 0 .. 1,024
unfoldable pub T° : ℕ → ℤ
T° place = on_circle T place

-- "coefficient 0 times 2^30 plus twice the sum over k from 1 of coefficient k times the T value at place (2n+1)k·1024/N"
unfoldable pub inverse_sum : ℕ → (ℕ → ℤ) → ℕ → ℤ
inverse_sum N c n =
    c 0 *ℤ pos (2 ^ 30)
    +ℤ pos 2 *ℤ sum (N - 1) (λ i. let k = i + 1 in c k *ℤ T° ((2 * n + 1) * k * 1024 / N))

-- "Value n is .., all over N·2^30, rounded once to the nearest whole number, a tie going to the larger."
unfoldable pub inverse_dct : ℕ → (ℕ → ℤ) → ℕ → ℤ
inverse_dct N c n = nearest (inverse_sum N c n) (N * 2 ^ 30)

-- 10: "a coefficient lies beyond N·1,000,000 + N on either side"
abbrev pub largest_coefficient : ℕ → ℕ
largest_coefficient N = N * 1000000 + N

-- "Order: 1, 2 (fewer than N coefficients stored), 3, 10.", 10 "with the place of the first such"
unfoldable pub inverse_verdict : (coefficients : List ℤ) → ℕ → (values : List ℤ) → Verdict
inverse_verdict coefficients N values =
    stored_tests N N (length coefficients ∷ [])
    (cond (ltb (length values) N) (refused 3)
    (first_beyond_or 10 (largest_coefficient N) (word coefficients) 0 N accepted))
