-- The tests of a page, in their order: the answer at each, and what is known behind the last. Assumes nothing.
use mathlib.Core.Bool.{true}
use mathlib.Core.List.{List, [], ◌∷◌, ◌++◌}
use mathlib.Core.Path.{◌≡◌, refl, ◌∙◌, ap₂}
use Prim.Native.Nat.{ℕ, ◌+◌, ◌*◌, ◌/◌, min, ◌≤◌, ◌<◌}
use lib.IntN.{ℤ}
use lib.ListN.{length, take}
use lib.Seq.{length-take-le}
use borrow.Author.Tests.{lt-ltb, le-ltb}
use Rattle.std.proofs.lemmas.Grind.{common_steps}
use Rattle.std.proofs.lemmas.List.{get_or-take}
use Rattle.words.specs.Words.{word}
use Rattle.words.specs.Put.{Put}
use Rattle.words.proofs.Putting.{joined_same}
use Rattle.lengths.specs.Block.{is_length}
use Rattle.refusals.specs.declared.refusal.Refusal.{Refusal}
use Rattle.refusals.specs.declared.refusal.Refusal.TheVariants.{ResultTooShort}
use Rattle.std.specs.Prelude.{Result, Ok, Err, ⊤}
use Rattle.refusals.specs.Refusals.{accepted}
use Rattle.refusals.specs.Calls.{stored_tests}
use Rattle.refusals.specs.Tests.{Tells}
use Rattle.refusals.proofs.Promises.{turned_down, carried_out}
use Rattle.refusals.proofs.Calls.{refused_by, passed_by, stored_passes, stored_two}
use Rattle.pages.specs.Page.{heading, line, lines, page, page_verdict}
use Rattle.pages.specs.Promises.{PagePromise}
use Rattle.pages.proofs.Lines.{few_lines}

-- the lines of the first n words of either are those of the words
front_lines : (cs ss : List ℤ) (n : ℕ) → n ≤ length cs
    → lines (word (take n cs)) (word (take n ss)) (length (take n cs)) ≡ lines (word cs) (word ss) n
front_lines cs ss n h =
    rw (length-take-le n cs h) (joined_same _ _ n (λ k l. ap₂ (line k) (get_or-take n cs k _ l) (get_or-take n ss k _ l)))

module _ (cs ss : List ℤ) (N fewest : ℕ) (least : fewest ≡ min (length cs) (length ss))
    {tested : Result ⊤ Refusal} (t : Tells (stored_tests N (N / 2 + 1) (fewest ∷ [])) tested) where
  both : Tells (stored_tests N (N / 2 + 1) (length cs ∷ length ss ∷ [])) tested
  both = stored_two N _ (length cs) (length ss) least t

  pub not_stored : (buffer : List ℕ) {refusal : Refusal} → tested ≡ Err refusal → PagePromise cs ss N buffer buffer (Err refusal)
  unfolding page_verdict
  not_stored buffer e = refused_by both _ refl e

  module _ (passed : tested ≡ Ok tt) where
    length_ok : is_length N ≡ true
    length_ok = (stored_passes N _ _ (passed_by t accepted passed)).0

    pub enough : (N / 2 + 1 ≤ 513) × (N / 2 + 1 ≤ length cs) × (N / 2 + 1 ≤ length ss)
    enough = let (_, (of-cosine, (of-sine, _)), _) = stored_passes N _ _ (passed_by both accepted passed) in
        (few_lines N length_ok, of-cosine, of-sine)

    pub too_short : (buffer : List ℕ) → length buffer < 31 * (1 + (N / 2 + 1)) → PagePromise cs ss N buffer buffer (Err ResultTooShort)
    unfolding page_verdict
    too_short buffer h = turned_down ResultTooShort refl (passed_by both _ passed ∙ rw (lt-ltb _ _ h))

    pub printed : (buffer : List ℕ) {bytes : ℕ} {buffer' : List ℕ} → 31 * (1 + (N / 2 + 1)) ≤ length buffer
        → let n = length (take (N / 2 + 1) cs) in
        Put buffer 0 (heading ++ lines (word (take (N / 2 + 1) cs)) (word (take (N / 2 + 1) ss)) n) bytes buffer' × (bytes ≡ 31 * (1 + n))
        → PagePromise cs ss N buffer buffer' (Ok bytes)
    unfolding page_verdict page
    printed buffer room (put, all) =
        carried_out refl (passed_by both _ passed ∙ rw (le-ltb _ _ room))
        (record {
          printed = rw (front_lines cs ss (N / 2 + 1) enough.1) at put;
          bytes_is = rw (length-take-le (N / 2 + 1) cs enough.1) at all;
          length_ok = length_ok;
        })

-- what the check tries in a run of `fill_page`
pub ruleset page_tests = (common_steps, not_stored, enough, too_short, printed)
