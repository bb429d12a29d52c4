-- Wrong outcomes that the promises of the calls exclude, each at one named input, with buffers that just suffice: among them document 01's
-- "Plausible programs that are wrong" and its "Worthless versions".
use Rattle.std.specs.Prelude.{List, [], ◌∷◌, ℕ, ℤ, pos, negsuc, replicate, Result}
use Rattle.words.specs.Words.{word}
use Rattle.lengths.specs.Block.{spectrum_yields}
use Rattle.refusals.specs.Refusals.{scratch_words, number, place}
use Rattle.refusals.specs.Exclusion.{nines, Never}
use Rattle.counts.specs.declared.tally.Tally.{Tally}
use Rattle.counts.specs.declared.Counts.{Counts}
use Rattle.refusals.specs.declared.refusal.Refusal.{Refusal}
use Rattle.refusals.specs.Answers.{answered}
use Rattle.spectra.specs.declared.marks.Marked.{Marked}
use Rattle.spectra.specs.Answers.{spent, counts_of, mark_number}
use Rattle.spectra.specs.Promises.{Buffers, buffers, PairBuffers, pair_buffers}
use Rattle.spectra.specs.Promises.{CosinePromise, SpectrumPromise, PairPromise, CountsPromise, MarkPromise}

-- P2, P4 and P5
abbrev P2 : List ℤ
P2 = pos 1 ∷ pos 2 ∷ pos 3 ∷ pos 4 ∷ []

abbrev P4 : List ℤ
P4 = pos 3 ∷ pos 1 ∷ []

abbrev P5 : List ℤ
P5 = pos 0 ∷ pos 1 ∷ []

abbrev nones : ℕ → List ℤ
nones n = replicate n (pos 0)

-- ---- Cosine. What it leaves in its buffers, and its answer, may be anything
module _ (coefficients scratch : List ℤ) (answer : Result Tally Refusal) where
  abbrev Cosine : List ℤ → (start N allowance : ℕ) → Type 0
  Cosine recording start N allowance =
      CosinePromise recording start N allowance (nines N) (nines (scratch_words N)) coefficients scratch answer

  pub record CosineExcluded : Type 0 where
    -- "Shifting products down without the half": 0 for 0.7
    pub half_left_out : Never (Cosine (pos 1 ∷ pos 0 ∷ []) 0 2 1) (word coefficients 1) (pos 0)
    -- "Rounding c·C and s·S each for itself": 1.85 and 0.38 are 2 and 0, and their difference 1
    pub rounded_apart : Never (Cosine (pos 2 ∷ pos 0 ∷ pos 1 ∷ pos 0 ∷ []) 0 4 4) (word coefficients 1) (pos 2)
    -- "Direct sums rounded once": −0.36 is 0, and the rotation of rounded coefficients −1
    pub direct_sums : Never (Cosine (pos 0 ∷ pos 0 ∷ pos 0 ∷ pos 1 ∷ pos 0 ∷ pos 1 ∷ nones 2) 0 8 12) (word coefficients 1) (pos 0)
    -- "counts typed in for one length": those of N = 2
    pub counts_of_two : Never (Cosine P2 0 4 4) (spent answer).products 1
    -- "the first block transformed and repeated for later ones": −1, of P5, for 1, of P4 behind it
    pub first_again : Never (Cosine (pos 0 ∷ pos 1 ∷ P4) 2 2 1) (word coefficients 1) (negsuc 0)
    -- "allowance called too small before it is compared": it just suffices; and "a refusal each time"
    pub refused_by_five : Never (Cosine P5 0 2 1) (number (answered answer)) 5
    pub refused_by_one : Never (Cosine P5 0 2 1) (number (answered answer)) 1
    -- no rest is told: 0.7 times 2^30 is rounded
    pub rest_forgotten : Never (Cosine (pos 1 ∷ pos 0 ∷ []) 0 2 1) (spent answer).largest_rest 0
    -- the last of the words that are cleared
    pub scratch_left : Never (Cosine P5 0 2 1) (word scratch 79) (pos 9)
    -- the range of samples: a limit that is itself refused, one that is not tested below, and the place counted in the block, or lost
    pub limit_refused : Never (Cosine (pos 1000000 ∷ []) 0 1 0) (number (answered answer)) 6
    pub low_accepted : Never (Cosine (negsuc 1000000 ∷ []) 0 1 0) (number (answered answer)) 0
    pub place_in_block : Never (Cosine (pos 0 ∷ pos 1 ∷ pos 0 ∷ pos 1000001 ∷ []) 2 2 1) (place (answered answer)) 1
    pub place_lost : Never (Cosine (pos 0 ∷ pos 1000001 ∷ []) 0 2 1) (place (answered answer)) 0
    -- the order: 4 before 3, with no word of either
    pub four_first : Never (CosinePromise P4 0 2 1 [] [] coefficients scratch answer) (number (answered answer)) 4

-- ---- Spectrum
module _ (lent : Buffers) (answer : Result Tally Refusal) where
  abbrev Spectrum : List ℤ → (start N allowance : ℕ) → Type 0
  Spectrum recording start N allowance =
      let results = nines (spectrum_yields N) in
      SpectrumPromise recording start N allowance (buffers results results (nines (scratch_words N))) lent answer

  pub record SpectrumExcluded : Type 0 where
    -- "Forming (14) without the (−1)^n": 1,000,000 at n = 3
    pub sign_left_out : Never (Spectrum (pos 0 ∷ pos 0 ∷ pos 0 ∷ pos 1000000 ∷ nones 4) 0 8 2) (word lent.sine 2) (pos 1000000)
    -- "Reading a stored DCT value at k = N/4 in (12)": that at 0, which is 6, added to −2
    pub stored_read : Never (Spectrum P2 0 4 0) (word lent.cosine 1) (pos 4)
    -- "Using Spectrum's or Pair's closed form at N = 1": one sum
    pub form_at_one : Never (Spectrum (pos 7 ∷ []) 0 1 0) (spent answer).sums 1
    -- "zero coefficients for all"; "buffers untouched"
    pub zeros : Never (Spectrum P2 0 4 0) (word lent.cosine 0) (pos 0)
    pub untouched : Never (Spectrum P2 0 4 0) (word lent.cosine 0) (pos 9)
    -- cosine and sine exchanged
    pub exchanged : Never (Spectrum (pos 7 ∷ []) 0 1 0) (word lent.sine 0) (pos 7)
    -- a refusal, 6, that has touched a result
    pub touched : Never (Spectrum (pos 1000001 ∷ []) 0 1 0) (word lent.cosine 0) (pos 1000001)

-- ---- Pair
module _ (lent : PairBuffers) (answer : Result Tally Refusal) where
  abbrev Pair : (a b : List ℤ) → (start N allowance : ℕ) → Type 0
  Pair a b start N allowance =
      PairPromise a b start N allowance (pair_buffers (nines N) (nines N) (nines (scratch_words N))) lent answer

  pub record PairExcluded : Type 0 where
    -- the sine's sign turned: −2 for 2
    pub sign_turned : Never (Pair P2 (nines 4) 0 4 0) (word lent.imaginary 1) (negsuc 1)
    -- the recordings exchanged
    pub exchanged : Never (Pair (pos 3 ∷ []) (pos 5 ∷ []) 0 1 0) (word lent.real 0) (pos 5)
    -- the closed form at N = 1: one product
    pub form_at_one : Never (Pair (pos 3 ∷ []) (pos 5 ∷ []) 0 1 0) (spent answer).products 1
    -- "in Pair a before b": b is out of range at place 0, a at place 1
    pub b_first : Never (Pair (pos 0 ∷ pos 1000001 ∷ []) (pos 1000001 ∷ pos 0 ∷ []) 0 2 0) (place (answered answer)) 0

-- ---- the count query
module _ (answer : Result Counts Refusal) where
  pub record CountsExcluded : Type 0 where
    -- the DCT's products of N = 2 for those of N = 4; Spectrum's sums by the closed form at N = 1; a length that is none
    pub counts_of_two : Never (CountsPromise 4 answer) (counts_of answer).dct.products 1
    pub form_at_one : Never (CountsPromise 1 answer) (counts_of answer).spectrum.sums 1
    pub any_length : Never (CountsPromise 3 answer) (number (answered answer)) 0

-- ---- the mark of a block
module _ (lent : Buffers) (answer : Result Marked Refusal) where
  abbrev Mark : List ℤ → (start N : ℕ) → (flat_limit clip_level : ℤ) → Type 0
  Mark recording start N flat_limit clip_level =
      let results = nines (spectrum_yields N) in
      MarkPromise recording start N 0 flat_limit clip_level (buffers results results (nines (scratch_words N))) lent answer

  pub record MarkExcluded : Type 0 where
    -- "Flat is looked at first.": a block that meets both rules told as clipped
    pub clipped_first : Never (Mark (pos 1000000 ∷ []) 0 1 (pos 0) (pos 1000000)) (mark_number answer) 2
    -- the sine not looked at; the last k not; k = 0 looked at, too
    pub sine_overlooked : Never (Mark (pos 0 ∷ pos 1 ∷ pos 0 ∷ negsuc 0 ∷ []) 0 4 (pos 0) (pos 2)) (mark_number answer) 1
    pub last_overlooked : Never (Mark (pos 1 ∷ negsuc 0 ∷ []) 0 2 (pos 0) (pos 2)) (mark_number answer) 1
    pub first_counted : Never (Mark (pos 5 ∷ pos 5 ∷ []) 0 2 (pos 0) (pos 6)) (mark_number answer) 3
    -- a sample that is just the clip level told as plain; one before the block looked at
    pub level_plain : Never (Mark (pos 1 ∷ negsuc 0 ∷ []) 0 2 (pos 0) (pos 1)) (mark_number answer) 3
    pub before_block : Never (Mark (pos 5 ∷ pos 1 ∷ negsuc 0 ∷ []) 1 2 (pos 0) (pos 5)) (mark_number answer) 2
    -- "Order: 1 to 6, then 12.": 12 before 1; figures told as 6; a refusal by 12 that has cleared scratch
    pub twelve_first : Never (Mark P4 0 3 (negsuc 0) (pos 1)) (number (answered answer)) 12
    pub told_as_six : Never (Mark (pos 7 ∷ []) 0 1 (negsuc 0) (pos 1)) (number (answered answer)) 6
    pub scratch_cleared : Never (Mark (pos 7 ∷ []) 0 1 (negsuc 0) (pos 1)) (word lent.scratch 0) (pos 0)
