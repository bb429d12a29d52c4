-- The values of the calls' answers beside their verdicts, by documents 01 and 02.
use Rattle.std.specs.Prelude.{ℕ, Result, Ok, Err}
use Rattle.counts.specs.declared.tally.Tally.{Tally}
use Rattle.counts.specs.declared.cost.Cost.{Cost}
use Rattle.counts.specs.declared.Counts.{Counts}
use Rattle.counts.specs.Tally.{none}
use Rattle.refusals.specs.declared.refusal.Refusal.{Refusal}
use Rattle.spectra.specs.declared.marks.Mark.{Mark}
use Rattle.spectra.specs.declared.marks.Mark.TheVariants.{Flat, Clipped, Plain}
use Rattle.spectra.specs.declared.marks.Marked.{Marked}

-- ---- the counts that an accepted call on recordings spent and its largest rest; else none
abbrev pub spent : Result Tally Refusal → Tally
spent (Err refusal) = none
spent (Ok tally) = tally

-- ---- the six counts of a length, by the count query; else none
abbrev pub no_cost : Cost
no_cost = record { products = 0; sums = 0 }

abbrev pub counts_of : Result Counts Refusal → Counts
counts_of (Err refusal) = record { dct = no_cost; spectrum = no_cost; pair = no_cost }
counts_of (Ok counts) = counts

-- ---- what the call that marks a block spent; else none
abbrev pub spent_marking : Result Marked Refusal → Tally
spent_marking (Err refusal) = none
spent_marking (Ok marked) = marked.spent

-- a mark as a number; 0 where there is none
abbrev pub number_of_mark : Mark → ℕ
number_of_mark Flat = 1
number_of_mark Clipped = 2
number_of_mark Plain = 3

abbrev pub mark_number : Result Marked Refusal → ℕ
mark_number (Err refusal) = 0
mark_number (Ok marked) = number_of_mark marked.mark
