-- Document 01, "The pair file": "Little-endian." The numbers of 32 bits that stand in the bytes of a file, and the bytes of a number.
use Rattle.std.specs.Prelude.{cond, List, [], ◌∷◌, ℕ, suc, ◌+◌, ◌-◌, ◌*◌, ◌/◌, ◌%◌, ◌^◌, ◌<◌, ltb, ℤ, pos, negsuc, ◌-ℤ◌, length, get_or}

-- byte k, and 0 past the end
abbrev pub byte : List ℕ → ℕ → ℕ
byte file k = get_or file k 0

-- a list of bytes, as every file is
abbrev pub AreBytes : List ℕ → Type 0
AreBytes file = (k : ℕ) → k < length file → byte file k < 256

-- the unsigned number in the four bytes from `at` on, the lowest byte first
abbrev pub unsigned : List ℕ → ℕ → ℕ
unsigned file at = byte file at + 256 * byte file (at + 1) + 65536 * byte file (at + 2) + 16777216 * byte file (at + 3)

-- the signed number that has the 32 bits of n, by two's complement
unfoldable pub signed : ℕ → ℤ
signed n = cond (ltb n (2 ^ 31)) (pos n) (pos n -ℤ pos (2 ^ 32))

-- ---- and back: the four bytes of an unsigned number, the lowest byte first
abbrev pub unsigned_bytes : ℕ → List ℕ
unsigned_bytes n = n % 256 ∷ n / 256 % 256 ∷ n / 65536 % 256 ∷ n / 16777216 % 256 ∷ []

-- the 32 bits of a signed number, by two's complement: `negsuc n` is - (n + 1)
abbrev pub bits : ℤ → ℕ
bits (pos n) = n
bits (negsuc n) = 2 ^ 32 - suc n

abbrev pub signed_bytes : ℤ → List ℕ
signed_bytes x = unsigned_bytes (bits x)
