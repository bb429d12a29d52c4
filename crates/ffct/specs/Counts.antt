-- Document 01, "Counts": "Closed forms, with L = log2 N, over signed whole numbers, a product with N formed before it is halved".
use Rattle.std.specs.Prelude.{ℕ, ◌*◌, ◌^◌, ℤ, pos, ◌+ℤ◌, ◌-ℤ◌, ◌*ℤ◌}
use Rattle.std.specs.Int.Signed.{shr_z}

-- N is 2 ^ L
abbrev N : ℕ → ℤ
N L = pos (2 ^ L)

-- (27): "DCT (N/2)L products and (N/2)(3L − 2) + 1 sums"
unfoldable pub dct_products : ℕ → ℤ
dct_products L = shr_z (N L *ℤ pos L) 2

unfoldable pub dct_sums : ℕ → ℤ
dct_sums L = shr_z (N L *ℤ (pos (3 * L) -ℤ pos 2)) 2 +ℤ pos 1

-- (28): "Spectrum (N/2)(L − 3) + 2 and (N/2)(3L − 5) + 4", from N = 2
unfoldable pub spectrum_products : ℕ → ℤ
spectrum_products L = shr_z (N L *ℤ (pos L -ℤ pos 3)) 2 +ℤ pos 2

unfoldable pub spectrum_sums : ℕ → ℤ
spectrum_sums L = shr_z (N L *ℤ (pos (3 * L) -ℤ pos 5)) 2 +ℤ pos 4

-- (29): "Pair N(L − 3) + 4 and 3N(L − 1) + 4", from N = 2
unfoldable pub pair_products : ℕ → ℤ
pair_products L = N L *ℤ (pos L -ℤ pos 3) +ℤ pos 4

unfoldable pub pair_sums : ℕ → ℤ
pair_sums L = pos 3 *ℤ N L *ℤ (pos L -ℤ pos 1) +ℤ pos 4
