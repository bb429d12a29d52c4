-- The four bytes of a number: where each is below 256, the number is below 2 ^ 32 and determines them; and where these stand, the number
-- is read. Assumes nothing.
use mathlib.Core.List.{List, ◌++◌}
use mathlib.Core.Path.{◌≡◌, sym, ap, ◌∙◌}
use Prim.Native.Nat.{ℕ, ◌+◌, ◌^◌, ◌≤◌, ◌<◌}
use native.Mathlib.Nat.{add-zero}
use native.Mathlib.Omega.{arith}
use lib.ListN.{length, drop}
use lib.Seq.{get_or-drop}
use borrow.Author.Count.{below_none, below_more}
use Rattle.std.proofs.lemmas.Grind.{common_steps}
use Rattle.std.proofs.lemmas.Nat.{from_le_bytes-to_le_bytes_4}
use Rattle.little_endian.specs.Numbers.{byte, AreBytes, unsigned, unsigned_bytes}

-- the four bytes of the number at a place
record Four (file : List ℕ) (at : ℕ) : Type 0 where
  b₀ : byte file at < 256
  b₁ : byte file (at + 1) < 256
  b₂ : byte file (at + 2) < 256
  b₃ : byte file (at + 3) < 256

four : (file : List ℕ) (at : ℕ) → AreBytes file → at + 4 ≤ length file → Four file at
four file at h l = record {
  b₀ = h at (omega arith);
  b₁ = h (at + 1) (omega arith);
  b₂ = h (at + 2) (omega arith);
  b₃ = h (at + 3) (omega arith);
}

pub unsigned_fits : (file : List ℕ) (at : ℕ) → AreBytes file → at + 4 ≤ length file → unsigned file at < 2 ^ 32
unsigned_fits file at h l = let b = four file at h l in omega arith

module _ (f g : List ℕ) (at : ℕ) (hf : AreBytes f) (hg : AreBytes g) (lf : at + 4 ≤ length f) (lg : at + 4 ≤ length g) where
  pub unsigned_once : unsigned f at ≡ unsigned g at → (k : ℕ) → k < 4 → byte f (at + k) ≡ byte g (at + k)
  unsigned_once e =
      let b = four f at hf lf in
      let c = four g at hg lg in
      let more = below_more (λ k. byte f (at + k) ≡ byte g (at + k)) in
      more 3 (more 2 (more 1 (more 0 (below_none _) (rw add-zero (omega arith))) (omega arith)) (omega arith)) (omega arith)

-- ---- the number is read where its bytes stand
module _ (file : List ℕ) (at n : ℕ) (rest : List ℕ) (e : drop at file ≡ unsigned_bytes n ++ rest) where
  stands : (k : ℕ) → byte file (at + k) ≡ byte (unsigned_bytes n ++ rest) k
  stands k = sym (get_or-drop at file k 0) ∙ ap (λ bytes. byte bytes k) e

  pub unsigned_back : n < 2 ^ 32 → unsigned file at ≡ n
  unsigned_back h = rw (rw add-zero at (stands 0), stands 1, stands 2, stands 3) (omega (arith, from_le_bytes-to_le_bytes_4 n h))

-- ---- lists of bytes, one behind another
pub bytes_behind : (f g : List ℕ) → AreBytes f → AreBytes g → AreBytes (f ++ g)
bytes_behind f g hf hg k h = grind (arith, common_steps)

pub four_bytes : (n : ℕ) → AreBytes (unsigned_bytes n)
four_bytes n =
    let more = below_more (λ k. byte (unsigned_bytes n) k < 256) in
    more 3 (more 2 (more 1 (more 0 (below_none _) (omega arith)) (omega arith)) (omega arith)) (omega arith)
