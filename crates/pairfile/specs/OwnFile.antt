-- Document 02, (ii), "Our own pair files": the bytes of the file, and when the call that writes it is turned down.
use Rattle.std.specs.Prelude.{not, cond, ℕ, eqb, ltb, ℤ, length}
use mathlib.Core.List.{List, [], ◌∷◌, ◌++◌, flat_map}
use Rattle.words.specs.Words.{word}
use Rattle.lengths.specs.Block.{is_length}
use Rattle.refusals.specs.Refusals.{Verdict, refused, accepted, first_out_in}
use Rattle.little_endian.specs.Numbers.{unsigned_bytes, signed_bytes}
use Rattle.pairfile.specs.File.{bad_count, file_bytes}

-- "From two recordings and a block length, write the file of document 01": m, N, the samples of a, the samples of b
unfoldable pub pair_file : List ℤ → List ℤ → ℕ → List ℕ
pair_file a b N = unsigned_bytes (length a) ++ unsigned_bytes N ++ flat_map signed_bytes a ++ flat_map signed_bytes b

-- "Order: 8 (by the length of a), 11, 1, 6 (over all of a, then of b), 3."
-- 11: "when the two recordings differ in length"; 3: "when the buffer is below 8 + 8m bytes"; `room` is the length of the buffer
unfoldable pub write_verdict : List ℤ → List ℤ → ℕ → ℕ → Verdict
write_verdict a b N room =
    cond (bad_count (length a)) (refused 8)
    (cond (not (eqb (length b) (length a))) (refused 11)
    (cond (not (is_length N)) (refused 1)
    (first_out_in (word a ∷ word b ∷ []) 0 (length a)
    (cond (ltb room (file_bytes (length a))) (refused 3) accepted))))
