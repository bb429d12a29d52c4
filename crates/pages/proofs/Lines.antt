-- Lines of a page: how wide they are, and the runs of `put_line` and `put_page`. Assumes nothing.
use mathlib.Core.Bool.{true}
use mathlib.Core.Path.{◌≡◌, refl}
use mathlib.Core.List.{List, [], ◌∷◌, ◌++◌, append_assoc}
use Prim.Native.Nat.{ℕ, ◌+◌, ◌*◌, ◌≤◌, ◌<◌}
use native.Mathlib.Omega.{arith}
use lib.IntN.{ℤ}
use lib.ListN.{length, length-append}
use mir.Syntax.{w32}
use mir.Val.{SFits, to_z}
use mir.Facts.{to_z-of_z, to_z_pos}
use Rattle.std.proofs.lemmas.Grind.{common_steps}
use Rattle.words.specs.Put.{Put}
use Rattle.words.proofs.Putting.{◌then◌, joined_none, joined_more}
use Rattle.lengths.specs.Block.{is_length, spectrum_yields}
use Rattle.lengths.proofs.ElevenLengths.{length_le}
use Rattle.text.specs.Decimal.{space, line_feed, number, decimal}
use Rattle.text.specs.Alignment.{right_aligned}
use Rattle.text.proofs.Spelling.{number_length, decimal_length}
use Rattle.text.proofs.Runs.{held}
use Rattle.text.proofs.Alignment.{aligned_length, column_length}
use Rattle.pages.specs.Page.{columns, heading, line, lines}
use Rattle.pages.specs.Laws.{CoefficientFits}

-- ---- widths
columns_length : (k c s : List ℕ) → length k ≤ 4 → length c ≤ 12 → length s ≤ 12 → length (columns k c s) ≡ 31
unfolding columns
columns_length k c s a b d = simp length-append (omega (arith, aligned_length 4 k a, aligned_length 12 c b, aligned_length 12 s d))

pub heading_length : length heading ≡ 31
unfolding heading
heading_length = columns_length _ _ _ (omega arith) (omega arith) (omega arith)

pub number_fits : (k : ℕ) → k < 10000 → length (number k) ≤ 4
number_fits k h = number_length 3 k h

pub coefficient_fits : CoefficientFits
coefficient_fits x f = omega (arith, decimal_length x f)

pub line_length : (k : ℕ) (c s : ℤ) → k < 10000 → SFits w32 c → SFits w32 s → length (line k c s) ≡ 31
line_length k c s h f g = columns_length _ _ _ (number_fits k h) (coefficient_fits c f) (coefficient_fits s g)

-- the lines of the longest block
pub few_lines : (N : ℕ) → is_length N ≡ true → spectrum_yields N ≤ 513
few_lines N ok = omega (arith, length_le N ok)

-- ---- a run of `put_line`: the columns of k, of the cosine and of the sine, and what ends each
pub held_fits : (x : ℤ) → SFits w32 x → length (decimal (held x)) ≤ 12
held_fits x f = rw (to_z-of_z f) (coefficient_fits x f)

k_is : (k : ℕ) → k < 10000 → decimal (to_z w32 k) ≡ number k
unfolding decimal
k_is k few = rw (to_z_pos w32 {n = k} (omega arith)) refl

pub k_fits : (k : ℕ) → k < 10000 → length (decimal (to_z w32 k)) ≤ 4
k_fits k few = rw (k_is k few) (number_fits k few)

abbrev column : ℕ → ℤ → List ℕ → List ℕ
column width x end = right_aligned width (decimal x) ++ end

pub line_put : (k : ℕ) (c s : ℤ) {at r₁ r₂ r₃ : ℕ} {page page₁ page₂ page₃ : List ℕ} → k < 10000 → SFits w32 c → SFits w32 s
    → Put page at (column 4 (to_z w32 k) space) r₁ page₁ → Put page₁ r₁ (column 12 (held c) space) r₂ page₂
    → Put page₂ r₂ (column 12 (held s) line_feed) r₃ page₃ → Put page at (line k c s) r₃ page₃
line_put k c s few f g p₁ p₂ p₃ =
    let in-parts : line k c s ≡ column 4 (to_z w32 k) space ++ column 12 (held c) space ++ column 12 (held s) line_feed =
    unfold columns in rw (k_is k few, to_z-of_z f, to_z-of_z g) (simp append_assoc) in
    rw in-parts (p₁ then p₂ then p₃)

-- what the check tries in a run of `put_line`
pub ruleset columns_put = (common_steps, column_length, k_fits, held_fits, line_put)

-- ---- the lines below the heading: none yet, and one more
pub record LinesPut (c s : ℕ → ℤ) (k : ℕ) (page : List ℕ) (at next : ℕ) (page₁ : List ℕ) : Type 0 where
  pub put : Put page at (lines c s k) next page₁
  pub behind : next ≡ at + 31 * k

module _ (c s : ℕ → ℤ) {at : ℕ} {page : List ℕ} where
  pub no_lines : at ≤ length page → LinesPut c s 0 page at at page
  no_lines room = record { put = joined_none _ room; behind = omega arith }

  pub line_more : (k : ℕ) {next q : ℕ} {page₁ page₂ : List ℕ} → LinesPut c s k page at next page₁
      → Put page₁ next (line k (held (c k)) (held (s k))) q page₂ → k < 10000 → SFits w32 (c k) → SFits w32 (s k)
      → LinesPut c s (k + 1) page at q page₂
  line_more k p l few f g =
      let more = rw (to_z-of_z f, to_z-of_z g) at l in
      record { put = joined_more _ k p.put more; behind = omega (arith, p.behind, more.next_is, line_length k (c k) (s k) few f g) }

-- ---- a run of `put_page`: the heading is put, and the lines before k
abbrev heading_bytes : List ℕ
heading_bytes =
    32 ∷ 32 ∷ 32 ∷ 107 ∷ 32
    ∷ 32 ∷ 32 ∷ 32 ∷ 32 ∷ 32 ∷ 32 ∷ 99 ∷ 111 ∷ 115 ∷ 105 ∷ 110 ∷ 101 ∷ 32
    ∷ 32 ∷ 32 ∷ 32 ∷ 32 ∷ 32 ∷ 32 ∷ 32 ∷ 32 ∷ 115 ∷ 105 ∷ 110 ∷ 101 ∷ 10 ∷ []

heading_is : heading_bytes ≡ heading
unfolding heading columns right_aligned
heading_is = refl

pub page_put : (c s : ℕ → ℤ) (n : ℕ) {k at next : ℕ} {page page₀ page₁ : List ℕ} → Put page 0 heading_bytes at page₀
    → LinesPut c s k page₀ at next page₁ → k ≡ n → Put page 0 (heading ++ lines c s n) next page₁ × (next ≡ 31 * (1 + n))
page_put c s n first p all = (rw (← heading_is, ← all) (first then p.put), omega (arith, p.behind, first.next_is))
