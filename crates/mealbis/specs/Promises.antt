-- What the exported functions promise, for every input: the promise of the call that they make, and what C is told of its answer. A buffer
-- or a word marked ' is one after the call.
use Rattle.std.specs.Prelude.{List, [], ◌∷◌, ◌≡◌, ℕ, ℤ, Result}
use Rattle.counts.specs.declared.tally.Tally.{Tally}
use Rattle.counts.specs.declared.Counts.{Counts}
use Rattle.refusals.specs.declared.refusal.Refusal.{Refusal}
use Rattle.refusals.specs.Refusals.{place, number as number_of}
use Rattle.refusals.specs.Answers.{answered, bytes_of}
use Rattle.spectra.specs.declared.marks.Marked.{Marked}
use Rattle.spectra.specs.Answers.{spent, counts_of, spent_marking, mark_number}
use Rattle.spectra.specs.Promises.{Buffers, PairBuffers, SpectrumPromise, CosinePromise, PairPromise, MarkPromise, CountsPromise}
use Rattle.months.specs.Answers.{blocks_of, sums_of}
use Rattle.months.specs.Promises.{Given, BeginPromise, AddPromise, NumberPromise, SumsPromise}
use Rattle.inverse.specs.Promises.{InversePromise}
use Rattle.pairfile.specs.Answers.{sizes_of}
use Rattle.pairfile.specs.Promises.{ReadPromise, WritePromise}
use Rattle.pages.specs.Promises.{PagePromise}

-- There is an answer that keeps the call's promise, and it is the answer told: by the number returned, which is the refusal's in document
-- 01 or 02 and 0 where the call is accepted, and by the words of a lent record, which hold in every answer what `words` has for it.
pub record Told {A W : Type 0} (promise : Result A Refusal → Type 0) (words : Result A Refusal → List W)
    (told' : List W) (number : ℕ) : Type 0 where
  pub answer : Result A Refusal
  pub promised : promise answer
  pub number_is : number ≡ number_of (answered answer)
  pub words_are : told' ≡ words answer

-- ---- the calls on recordings tell products, sums, the largest rest and the place. By their definitions the counts and the largest rest
-- are 0 in every refusal, and the place is 0 in every answer but refusal 6
abbrev pub spent_and_place : Result Tally Refusal → List ℕ
spent_and_place a = (spent a).products ∷ (spent a).sums ∷ (spent a).largest_rest ∷ place (answered a) ∷ []

abbrev pub SpectrumTold : List ℤ → (start N allowance : ℕ) → (lent lent' : Buffers) → List ℕ → ℕ → Type 0
SpectrumTold recording start N allowance lent lent' = Told (SpectrumPromise recording start N allowance lent lent')
    spent_and_place

abbrev pub CosineTold : List ℤ → (start N allowance : ℕ) → (coefficients scratch coefficients' scratch' : List ℤ) → List ℕ → ℕ → Type 0
CosineTold recording start N allowance coefficients scratch coefficients' scratch' =
    Told (CosinePromise recording start N allowance coefficients scratch coefficients' scratch') spent_and_place

abbrev pub PairTold : (a b : List ℤ) → (start N allowance : ℕ) → (lent lent' : PairBuffers) → List ℕ → ℕ → Type 0
PairTold a b start N allowance lent lent' = Told (PairPromise a b start N allowance lent lent') spent_and_place

-- ---- the mark of a block, as its number, stands behind these; it is 0 in every refusal
abbrev pub marked_and_place : Result Marked Refusal → List ℕ
marked_and_place a =
    (spent_marking a).products ∷ (spent_marking a).sums ∷ (spent_marking a).largest_rest ∷ place (answered a) ∷ mark_number a ∷ []

abbrev pub MarkTold : List ℤ → (start N allowance : ℕ) → (flat_limit clip_level : ℤ) → (lent lent' : Buffers) → List ℕ → ℕ → Type 0
MarkTold recording start N allowance flat_limit clip_level lent lent' =
    Told (MarkPromise recording start N allowance flat_limit clip_level lent lent') marked_and_place

-- ---- a month, in words that C lends. Beginning tells its number alone, adding what Spectrum tells, reading a party's block number, or its
-- two sums for k, which are 0 in a refusal
abbrev pub BeginTold : ℕ → (month' : List ℤ) → ℕ → Type 0
BeginTold N month' = Told {W = ℕ} (BeginPromise N month') (λ answer. []) []

abbrev pub AddTold : ℕ → Given → (month month' : List ℤ) → Buffers → List ℕ → ℕ → Type 0
AddTold p g month month' lent' = Told (AddPromise p g month month' lent') spent_and_place

abbrev pub NumberTold : ℕ → (month : List ℤ) → List ℤ → ℕ → Type 0
NumberTold p month = Told (NumberPromise p month) (λ a. blocks_of a ∷ [])

abbrev pub SumsTold : ℕ → (month : List ℤ) → (k : ℕ) → List ℤ → ℕ → Type 0
SumsTold p month k = Told (SumsPromise p month k) (λ a. (sums_of a).cosine ∷ (sums_of a).sine ∷ [])

-- ---- the count query tells the six counts, products and sums of the DCT, of Spectrum and of Pair; they are 0 in refusal 1
abbrev pub six_counts : Result Counts Refusal → List ℕ
six_counts a =
    let c = counts_of a in
    c.dct.products ∷ c.dct.sums ∷ c.spectrum.products ∷ c.spectrum.sums ∷ c.pair.products ∷ c.pair.sums ∷ []

abbrev pub CountsTold : ℕ → List ℕ → ℕ → Type 0
CountsTold N = Told (CountsPromise N) six_counts

-- ---- strain back tells the place, which is 0 in every answer but refusal 10
abbrev pub InverseTold : (coefficients : List ℤ) → ℕ → (values values' : List ℤ) → List ℕ → ℕ → Type 0
InverseTold coefficients N values values' =
    Told (InversePromise coefficients N values values') (λ a. place (answered a) ∷ [])

-- ---- a page tells its bytes, 0 in every refusal; a file that is written, its bytes and the place; one that is read, m, N and the place.
-- The place is 0 in every answer but refusal 6
abbrev pub PageTold : (cosine sine : List ℤ) → ℕ → (buffer buffer' : List ℕ) → List ℕ → ℕ → Type 0
PageTold cosine sine N buffer buffer' = Told (PagePromise cosine sine N buffer buffer') (λ a. bytes_of a ∷ [])

abbrev pub WriteTold : (a b : List ℤ) → ℕ → (buffer buffer' : List ℕ) → List ℕ → ℕ → Type 0
WriteTold a b N buffer buffer' = Told (WritePromise a b N buffer buffer') (λ w. bytes_of w ∷ place (answered w) ∷ [])

abbrev pub ReadTold : List ℕ → (a b a' b' : List ℤ) → List ℕ → ℕ → Type 0
ReadTold bytes a b a' b' =
    Told (ReadPromise bytes a b a' b') (λ r. (sizes_of r).samples ∷ (sizes_of r).length ∷ place (answered r) ∷ [])
