-- Our own file: put part by part; how long it is; and that it reads as the recordings and the block length that it was made from.
-- Assumes nothing.
use mathlib.Core.Path.{◌≡◌, refl, sym, ap, ◌∙◌}
use mathlib.Core.List.{List, [], ◌++◌, append-nil}
use Prim.Native.Nat.{ℕ, ◌+◌, ◌*◌, ◌^◌, ◌≤◌, ◌<◌}
use native.Mathlib.Omega.{arith}
use lib.IntN.{ℤ, nat_abs}
use lib.ListN.{length, drop, length-append}
use lib.Seq.{drop_at, drop-drop}
use Rattle.std.proofs.lemmas.Grind.{common_steps}
use Rattle.words.specs.Words.{word}
use Rattle.words.specs.Put.{Put}
use Rattle.words.proofs.Putting.{◌then◌}
use Rattle.lengths.proofs.ElevenLengths.{length_le}
use Rattle.little_endian.specs.Numbers.{AreBytes, signed, unsigned_bytes}
use Rattle.little_endian.proofs.Bytes.{unsigned_back, bytes_behind, four_bytes}
use Rattle.little_endian.proofs.Signs.{bits_fit, signed_bits}
use Rattle.pairfile.specs.File.{samples_at, start_of_a, start_of_b, file_bytes, sample_count}
use Rattle.pairfile.specs.OwnFile.{pair_file}
use Rattle.pairfile.specs.Promises.{Sound}
use Rattle.pairfile.specs.Laws.{Reads}
use Rattle.pairfile.proofs.Samples.{samples_bytes, samples_length, sample_stands, samples_bytes_lem}

-- ---- a run of the writer
module _ (a b : List ℤ) (N : ℕ) {r₁ r₂ r₃ : ℕ} {f₀ f₁ f₂ f₃ : List ℕ} (p₁ : Put f₀ 0 (unsigned_bytes (length a)) r₁ f₁)
    (p₂ : Put f₁ r₁ (unsigned_bytes N) r₂ f₂) (p₃ : Put f₂ r₂ (samples_bytes a) r₃ f₃) where
  pub b_ready : length b ≡ length a → file_bytes (length a) ≤ length f₀ → r₃ + 4 * length b ≤ length f₃
  b_ready same room = omega (arith, samples_length a)

  pub file_put : {r₄ : ℕ} {f₄ : List ℕ} → Put f₃ r₃ (samples_bytes b) r₄ f₄ → Put f₀ 0 (pair_file a b N) r₄ f₄
  unfolding pair_file
  file_put p₄ = p₁ then p₂ then p₃ then p₄

-- ---- a sample is read where its bytes stand
sample_back : (file : List ℕ) (at : ℕ) (xs : List ℤ) (rest : List ℕ) → drop at file ≡ samples_bytes xs ++ rest
    → (n : ℕ) → n < length xs → nat_abs (word xs n) < 2 ^ 31 → samples_at file at n ≡ word xs n
sample_back file at xs rest e n h l =
    let here = sym (drop-drop (4 * n) at file) ∙ ap (drop (4 * n)) e ∙ sample_stands xs n rest h in
    ap signed (unsigned_back file (at + 4 * n) _ _ here (bits_fit (word xs n) l)) ∙ signed_bits (word xs n) l

-- ---- the file of a, b and N
module _ (a b : List ℤ) (N : ℕ) where
  abbrev file : List ℕ
  file = pair_file a b N

  -- what stands from byte 0, 4, 8 and 8 + 4 m on
  from_start : drop 0 file ≡ unsigned_bytes (length a) ++ (unsigned_bytes N ++ (samples_bytes a ++ samples_bytes b))
  unfolding pair_file
  from_start = refl

  from_length : drop 4 file ≡ unsigned_bytes N ++ (samples_bytes a ++ samples_bytes b)
  unfolding pair_file
  from_length = refl

  from_a : drop start_of_a file ≡ samples_bytes a ++ samples_bytes b
  unfolding pair_file
  from_a = refl

  from_b : drop (start_of_b (length a)) file ≡ samples_bytes b ++ []
  from_b =
      sym (drop-drop (4 * length a) 8 file) ∙ ap (drop (4 * length a)) from_a
      ∙ drop_at (samples_bytes a) (samples_bytes b) (4 * length a) (samples_length a) ∙ sym (append-nil (samples_bytes b))

  module _ (same : length b ≡ length a) where
    pub file_length : length file ≡ file_bytes (length a)
    unfolding pair_file
    file_length = omega (arith, length-append (samples_bytes a) (samples_bytes b), samples_length a, samples_length b)

    module _ (s : Sound (length a) N (word a) (word b)) where
      count_back : sample_count file ≡ length a
      count_back = unsigned_back file 0 (length a) _ from_start (omega (arith, s.most))

      pub own_reads : Reads file (length a) N (word a) (word b)
      own_reads = record {
        count = count_back;
        blocks = unsigned_back file 4 N _ from_length (omega (arith, length_le N s.length_ok));
        of_a = λ n h. sample_back file start_of_a a _ from_a n h (omega (arith, s.range_of_a n h));
        of_b = λ n h. rw count_back (sample_back file (start_of_b (length a)) b _ from_b n (omega arith) (omega (arith, s.range_of_b n h)));
      }

  pub own_bytes : AreBytes file
  unfolding pair_file
  own_bytes =
      bytes_behind (unsigned_bytes (length a) ++ unsigned_bytes N ++ samples_bytes a) (samples_bytes b)
      (bytes_behind (unsigned_bytes (length a) ++ unsigned_bytes N) (samples_bytes a)
      (bytes_behind (unsigned_bytes (length a)) (unsigned_bytes N) (four_bytes (length a)) (four_bytes N)) (samples_bytes_lem a))
      (samples_bytes_lem b)

-- what the check tries
pub ruleset own_file = (common_steps, b_ready)
