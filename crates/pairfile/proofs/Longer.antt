-- A longer file answers as its first 32,777 bytes do: one byte more than the longest file that is accepted. So a program need not take in
-- more than these.
-- Assumes nothing.
use mathlib.Core.Bool.{Bool, true, false}
use mathlib.Core.List.{List}
use mathlib.Core.Path.{◌≡◌, refl, sym, ap, ◌∙◌}
use mathlib.Core.Logic.{⊎_elim}
use Prim.Native.Nat.{ℕ, ◌<◌}
use native.Mathlib.Omega.{arith}
use lib.ListN.{length, take}
use lib.Seq.{take_all, length-take-le, get_or-take}
use Rattle.whole.proofs.Cases.{le_or_lt}
use Rattle.little_endian.specs.Numbers.{byte}
use Rattle.pairfile.specs.File.{sample_count, most_samples, bad_count, file_bytes, file_verdict}
use Rattle.pairfile.specs.Laws.{AnswersAsItsFirst, first_bytes, LongerFile}
use Rattle.pairfile.proofs.Verdicts.{good_count, Passed8, refused_8, refused_9, accepted_9}

module _ (n : ℕ) (enough : file_bytes most_samples < n) (file lent : List ℕ) where
  -- a file of more than n bytes is refused with 8, by m, or else with 9; so are its first n bytes
  module _ (h : n < length file) where
    cut : length (take n file) ≡ n
    cut = length-take-le n file (omega arith)

    same_byte : (k : ℕ) → k < n → byte (take n file) k ≡ byte file k
    same_byte k l = get_or-take n file k 0 l

    same_count : sample_count (take n file) ≡ sample_count file
    same_count = omega (arith, same_byte 0 (omega arith), same_byte 1 (omega arith), same_byte 2 (omega arith), same_byte 3 (omega arith))

    same_verdict : (bad : Bool) → bad_count (sample_count file) ≡ bad → file_verdict (take n file) lent ≡ file_verdict file lent
    same_verdict true e =
        refused_8 (take n file) lent (omega (arith, cut)) (rw same_count e) ∙ sym (refused_8 file lent (omega arith) e)
    same_verdict false e =
        let (_, few) = good_count (sample_count file) e in
        let p : Passed8 (take n file) = record { header = omega (arith, cut); count = rw same_count e } in
        let q : Passed8 file = record { header = omega arith; count = e } in
        refused_9 (take n file) lent p (λ e. omega (arith, cut, same_count)) ∙ sym (refused_9 file lent q (λ e. omega arith))

    both_refused : file_verdict (take n file) lent ≡ file_verdict file lent
    both_refused = same_verdict (bad_count (sample_count file)) refl

  answers_as_its_first : AnswersAsItsFirst n file lent
  answers_as_its_first = record {
    verdict = ⊎_elim (λ l. ap (λ f. file_verdict f lent) (take_all n file l)) both_refused (le_or_lt (length file) n);
    whole = λ ok.
        let p = accepted_9 file lent ok in
        let (_, few) = good_count (sample_count file) p.past.count in
        take_all n file (omega arith);
  }

-- ---- the law, with the number
first_bytes_lem : first_bytes ≡ 32777
unfolding first_bytes
first_bytes_lem = refl

pub longer : LongerFile
longer = answers_as_its_first first_bytes (omega (arith, first_bytes_lem))
