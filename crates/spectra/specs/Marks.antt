-- Document 02, (iii), "A mark for each block, with the owner's own figures": the mark of a block, and when the call is turned down.
use Rattle.std.specs.Prelude.{Bool, true, false, cond, ◌||◌, ◌&&◌, ℕ, zero, suc, ◌/◌, ℤ, pos, nat_abs}
use Rattle.std.specs.Int.Signed.{le_z, lt_z}
use Rattle.words.specs.Words.{Samples}
use Rattle.refusals.specs.Refusals.{Verdict, refused, accepted}
use Rattle.refusals.specs.Calls.{Call, tests}
use Rattle.spectra.specs.declared.marks.Mark.{Mark}
use Rattle.spectra.specs.declared.marks.Mark.TheVariants.{Flat, Clipped, Plain}

-- a size is without sign
abbrev pub size : ℤ → ℤ
size z = pos (nat_abs z)

-- all, and some, of p i, p (i + 1), .. p (i + d - 1)
unfoldable pub all : (ℕ → Bool) → ℕ → ℕ → Bool
all p i zero = true
all p i (suc d) = p i && all p (suc i) d

unfoldable pub some : (ℕ → Bool) → ℕ → ℕ → Bool
some p i zero = false
some p i (suc d) = p i || some p (suc i) d

-- "A block is flat if all cosine and sine coefficients from k = 1 are at most the flat limit in size." They end at k = N / 2, so that there
-- are none at N = 1
abbrev pub flat : ℤ → ℕ → Samples → Samples → Bool
flat flat_limit N cosine sine =
    all (λ k. le_z (size (cosine k)) flat_limit) 1 (N / 2) && all (λ k. le_z (size (sine k)) flat_limit) 1 (N / 2)

-- "It is clipped if a sample is at least the clip level in size."
abbrev pub clipped : ℤ → ℕ → Samples → Bool
clipped clip_level N x = some (λ n. le_z clip_level (size (x n))) 0 N

-- "It is plain otherwise. Flat is looked at first."
unfoldable pub mark : (flat_limit clip_level : ℤ) → ℕ → (x cosine sine : Samples) → Mark
mark flat_limit clip_level N x cosine sine = cond (flat flat_limit N cosine sine) Flat (cond (clipped clip_level N x) Clipped Plain)

-- 12: "when the flat limit is negative or the clip level is outside 1 to 1,000,000"
abbrev pub bad_figures : (flat_limit clip_level : ℤ) → Bool
bad_figures flat_limit clip_level = lt_z flat_limit (pos 0) || (lt_z clip_level (pos 1) || lt_z (pos 1000000) clip_level)

-- "Order: 1 to 6, then 12."
abbrev pub mark_verdict : Call → (flat_limit clip_level : ℤ) → Verdict
mark_verdict call flat_limit clip_level = tests call (cond (bad_figures flat_limit clip_level) (refused 12) accepted)
