-- Two accepted files that read as the same m, N and samples are one file: a file is the list of its numbers of four bytes, and each of
-- them is read.
-- Assumes nothing.
use mathlib.Core.List.{List}
use mathlib.Core.Path.{◌≡◌, subst}
use mathlib.Core.Logic.{⊎_elim}
use Prim.Native.Nat.{ℕ, zero, suc, ◌+◌, ◌-◌, ◌*◌, ◌/◌, ◌%◌, ◌<◌}
use native.Mathlib.Omega.{arith}
use lib.ListN.{length}
use lib.Seq.{ext_get_or}
use Rattle.whole.proofs.Cases.{le_or_lt}
use Rattle.little_endian.specs.Numbers.{byte, AreBytes, unsigned, signed}
use Rattle.little_endian.proofs.Bytes.{unsigned_fits, unsigned_once}
use Rattle.little_endian.proofs.Signs.{signed_once}
use Rattle.pairfile.specs.File.{sample_count, block_length, samples_of_a, samples_of_b}
use Rattle.pairfile.specs.Laws.{Reads, OneFile}
use Rattle.pairfile.proofs.Verdicts.{Passed9, accepted_9}

module _ (f g : List ℕ) (hf : AreBytes f) (hg : AreBytes g) (p : Passed9 f) (q : Passed9 g)
    (same : Reads f (sample_count g) (block_length g) (samples_of_a g) (samples_of_b g)) where
  as_long : length f ≡ length g
  as_long = omega (arith, p.bytes, q.bytes, same.count)

  -- equal samples, at the place of number w
  sample_once : (w i j : ℕ) → w < 2 + 2 * sample_count f → i ≡ 4 * w → j ≡ 4 * w
      → signed (unsigned f i) ≡ signed (unsigned g j) → unsigned f (4 * w) ≡ unsigned g (4 * w)
  sample_once w i j h eᵢ eⱼ e =
      signed_once
      (unsigned_fits f (4 * w) hf (omega (arith, p.bytes)))
      (unsigned_fits g (4 * w) hg (omega (arith, p.bytes, as_long)))
      (rw (eᵢ, eⱼ) at e)

  -- number w of the file: m, N, a sample of a or a sample of b
  number : (w : ℕ) → w < 2 + 2 * sample_count f → unsigned f (4 * w) ≡ unsigned g (4 * w)
  number zero h = same.count
  number (suc zero) h = same.blocks
  number (suc (suc n)) h = ⊎_elim
      (λ l. sample_once (suc (suc n)) _ _ h (omega arith) (omega (arith, same.count))
      (same.of_b (n - sample_count f) (omega (arith, same.count))))
      (λ l. sample_once (suc (suc n)) _ _ h (omega arith) (omega arith) (same.of_a n (omega (arith, l, same.count))))
      (le_or_lt (sample_count f) n)

  byte_same : (k : ℕ) → k < length f → byte f k ≡ byte g k
  byte_same k h =
      let w = k / 4 in
      let once = unsigned_once f g (4 * w) hf hg (omega (arith, p.bytes)) (omega (arith, p.bytes, as_long)) in
      subst (λ i. byte f i ≡ byte g i) {x = 4 * w + k % 4} {y = k} (omega arith)
      (once (number w (omega (arith, p.bytes))) (k % 4) (omega arith))

pub one_file : OneFile
one_file f g lent lent' hf hg af ag same =
    let p = accepted_9 f lent af in
    let q = accepted_9 g lent' ag in
    ext_get_or 0 f g (as_long f g hf hg p q same) (byte_same f g hf hg p q same)
