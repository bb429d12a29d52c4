-- The bytes of the samples of a recording, one sample behind another: how many they are, those of one sample more, and where a sample
-- stands.
-- Assumes nothing.
use mathlib.Core.Path.{◌≡◌, refl, sym}
use mathlib.Core.List.{List, [], ◌∷◌, ◌++◌, append-nil, append_assoc, flat_map}
use Prim.Native.Nat.{ℕ, zero, suc, ◌+◌, ◌*◌, ◌≤◌, ◌<◌}
use native.Mathlib.Numerals.{add-one}
use native.Mathlib.Omega.{arith}
use lib.IntN.{ℤ, pos}
use lib.ListN.{length, take, drop}
use lib.Seq.{length-take-le, take-suc, take_all}
use mir.Syntax.{w32}
use mir.Val.{SFits, to_z, of_z}
use mir.Facts.{to_z-of_z}
use Rattle.std.proofs.lemmas.Grind.{common_steps}
use Rattle.words.specs.Words.{word}
use Rattle.words.specs.Put.{Put}
use Rattle.words.proofs.Putting.{put_none, ◌then◌}
use Rattle.little_endian.specs.Numbers.{AreBytes, bits, signed_bytes}
use Rattle.little_endian.proofs.Bytes.{bytes_behind, four_bytes}

abbrev pub samples_bytes : List ℤ → List ℕ
samples_bytes xs = flat_map signed_bytes xs

pub samples_length : (xs : List ℤ) → length (samples_bytes xs) ≡ 4 * length xs
unfolding flat_map
samples_length [] = refl
samples_length (x ∷ xs) = omega (arith, samples_length xs)

-- of a recording and one sample more
samples_behind : (xs : List ℤ) (x : ℤ) → samples_bytes (xs ++ (x ∷ [])) ≡ samples_bytes xs ++ signed_bytes x
unfolding flat_map
samples_behind [] x = append-nil _
samples_behind (y ∷ xs) x = rw (samples_behind xs x) (sym (append_assoc (signed_bytes y) (samples_bytes xs) (signed_bytes x)))

-- ---- a loop that has put i samples
pub no_sample : {file : List ℕ} {at : ℕ} → at ≤ length file → Put file at (samples_bytes []) at file
unfolding flat_map
no_sample h = put_none h

module _ (xs : List ℤ) {file : List ℕ} {at : ℕ} where
  module _ {i next : ℕ} {file₁ : List ℕ} (p : Put file at (samples_bytes (take i xs)) next file₁) (h : i < length xs) where
    pub sample_room : at + 4 * length xs ≤ length file → next + 4 ≤ length file₁
    sample_room r = omega (arith, p.next_is, p.len, samples_length (take i xs), length-take-le i xs (omega arith))

    pub sample_more : {q : ℕ} {file₂ : List ℕ} → Put file₁ next (signed_bytes (to_z w32 (of_z w32 (word xs i)))) q file₂
        → SFits w32 (word xs i) → Put file at (samples_bytes (take (i + 1) xs)) q file₂
    sample_more s f =
        rw (add-one i, take-suc xs i (pos 0) h, samples_behind (take i xs) (word xs i)) (p then (rw (to_z-of_z f) at s))

  pub all_samples : {i next : ℕ} {file₁ : List ℕ} → Put file at (samples_bytes (take i xs)) next file₁ → length xs ≤ i
      → Put file at (samples_bytes xs) next file₁
  all_samples {i} p h = rw (take_all i xs h) at p

-- what the check tries in the loop
pub ruleset samples_put = (common_steps, sample_room, all_samples)

-- ---- where sample n stands
pub sample_stands : (xs : List ℤ) (n : ℕ) (rest : List ℕ) → n < length xs
    → drop (4 * n) (samples_bytes xs ++ rest) ≡ signed_bytes (word xs n) ++ (samples_bytes (drop (suc n) xs) ++ rest)
unfolding flat_map
sample_stands [] n rest h = absurd (omega arith)
sample_stands (x ∷ xs) zero rest h = refl
sample_stands (x ∷ xs) (suc n) rest h =
    let four-more : 4 * suc n ≡ suc (suc (suc (suc (4 * n)))) = omega arith in
    rw four-more (sample_stands xs n rest (omega arith))

pub samples_bytes_lem : (xs : List ℤ) → AreBytes (samples_bytes xs)
unfolding flat_map
samples_bytes_lem [] = λ k h. absurd (omega arith)
samples_bytes_lem (x ∷ xs) = bytes_behind (signed_bytes x) (samples_bytes xs) (four_bytes (bits x)) (samples_bytes_lem xs)
