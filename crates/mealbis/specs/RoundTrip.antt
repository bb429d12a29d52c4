-- Document 02, (i): "A block sent through Cosine and back returns each sample within N." Cosine's promise and that of the inverse DCT,
-- joined: what a buyer may rely on who stores Cosine's words and hands them to the inverse DCT.
use Rattle.std.specs.Prelude.{List, ◌≡◌, ℕ, ◌≤◌, ◌<◌, ℤ, nat_abs, ◌-ℤ◌, length, Result, ⊤}
use Rattle.words.specs.Words.{word}
use Rattle.counts.specs.declared.tally.Tally.{Tally}
use Rattle.refusals.specs.declared.refusal.Refusal.{Refusal}
use Rattle.refusals.specs.Refusals.{block, accepted}
use Rattle.refusals.specs.Answers.{answered}
use Rattle.spectra.specs.Promises.{CosinePromise}
use Rattle.inverse.specs.Promises.{InversePromise}

-- (1) Cosine was called on the block at `start`, and (2) accepted it and left coefficients'; (3) the inverse DCT was called with these, N
-- and (4) a buffer of at least N words, and left values': it is accepted, and each of its N words is within N of the sample that it
-- came from
abbrev pub CosineAndBack : Type 0
CosineAndBack =
    (recording : List ℤ) (start N allowance : ℕ) (coefficients scratch coefficients' scratch' : List ℤ) (cosine : Result Tally Refusal)
    → CosinePromise recording start N allowance coefficients scratch coefficients' scratch' cosine
    → answered cosine ≡ accepted
    → (values values' : List ℤ) (back : Result ⊤ Refusal)
    → InversePromise coefficients' N values values' back
    → N ≤ length values
    → (answered back ≡ accepted)
    × ((n : ℕ) → n < N → nat_abs (word values' n -ℤ block recording start n) ≤ N)
