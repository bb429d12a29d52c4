-- `rotation::rotate_pair` meets its contract: each step of (20) fits a word (ffct/proofs/Sizes), and what is rounded is (19).
use Rattle.std.proofs.Common.{◌≡◌, ◌∙◌, ap, ap₂, max, w64, ℤ, nat_abs, ◌+ℤ◌, ◌-ℤ◌, ◌*ℤ◌, ◌≤◌, ◌+◌, ◌^◌, FitsSigned, to_z, of_z, rules}
use Rattle.std.proofs.lemmas.Int.{to_z-of_z}
use lib.Dec.{lit<}
use Rattle.whole.proofs.Size.{size_within, within_size, within_add, within_sub, within_fits}
use Rattle.lengths.specs.Block.{largest_sum}
use Rattle.ffct.proofs.Sizes.{RotationFits, rotation_fits, first_form, second_form}
use Rattle.rotation.proofs.rotate_pair.Goals as goal

-- what is made of the four numbers fits a word
record AllFit (c s C S : ℤ) : Type 0 where
  of_c : FitsSigned w64 c
  of_s : FitsSigned w64 s
  of_C : FitsSigned w64 C
  of_S : FitsSigned w64 S
  steps : RotationFits C S c s

all_fit : {c s C S : ℤ} → FitsSigned w64 c → FitsSigned w64 s → FitsSigned w64 C → FitsSigned w64 S
    → (nat_abs C ≤ largest_sum + 128) × (nat_abs S ≤ largest_sum + 128) → (nat_abs c ≤ 2 ^ 30) × (nat_abs s ≤ 2 ^ 30) → AllFit c s C S
all_fit fc fs fC fS b d = record {
  of_c = fc;
  of_s = fs;
  of_C = fC;
  of_S = fS;
  steps = rotation_fits (size_within _ b.0) (size_within _ b.1) (size_within _ d.0) (size_within _ d.1);
}

-- a number that fits, written and read
abbrev kept : ℤ → ℤ
kept x = to_z w64 (of_z w64 x)

-- the three products, and what is rounded
module _ {c s C S : ℤ} (h : AllFit c s C S) where
  m1_fits : FitsSigned w64 ((C +ℤ S) *ℤ c)
  m1_fits = within_fits h.steps.m1 (lit< tt)

  m2_fits : FitsSigned w64 (S *ℤ (c +ℤ s))
  m2_fits = within_fits h.steps.m2 (lit< tt)

  m3_fits : FitsSigned w64 (C *ℤ (s -ℤ c))
  m3_fits = within_fits h.steps.m3 (lit< tt)

  m1 : kept (kept C +ℤ kept S) *ℤ kept c ≡ (C +ℤ S) *ℤ c
  m1 = rw (to_z-of_z w64 _ h.of_C, to_z-of_z w64 _ h.of_S, to_z-of_z w64 _ h.of_c, to_z-of_z w64 _ h.steps.sum)

  m2 : kept S *ℤ kept (kept c +ℤ kept s) ≡ S *ℤ (c +ℤ s)
  m2 = rw (to_z-of_z w64 _ h.of_S, to_z-of_z w64 _ h.of_c, to_z-of_z w64 _ h.of_s, to_z-of_z w64 _ h.steps.entries)

  m3 : kept C *ℤ kept (kept s -ℤ kept c) ≡ C *ℤ (s -ℤ c)
  m3 = rw (to_z-of_z w64 _ h.of_C, to_z-of_z w64 _ h.of_s, to_z-of_z w64 _ h.of_c, to_z-of_z w64 _ h.steps.difference)

  first : kept (kept (kept C +ℤ kept S) *ℤ kept c) -ℤ kept (kept S *ℤ kept (kept c +ℤ kept s)) ≡ (C +ℤ S) *ℤ c -ℤ S *ℤ (c +ℤ s)
  first = rw (m1, m2, to_z-of_z w64 _ m1_fits, to_z-of_z w64 _ m2_fits)

  second : kept (kept (kept C +ℤ kept S) *ℤ kept c) +ℤ kept (kept C *ℤ kept (kept s -ℤ kept c)) ≡ (C +ℤ S) *ℤ c +ℤ C *ℤ (s -ℤ c)
  second = rw (m1, m3, to_z-of_z w64 _ m1_fits, to_z-of_z w64 _ m3_fits)

  -- which fit, and are the expressions of (19)
  first_fits : FitsSigned w64 ((C +ℤ S) *ℤ c -ℤ S *ℤ (c +ℤ s))
  first_fits = within_fits (within_sub h.steps.m1 h.steps.m2) (lit< tt)

  second_fits : FitsSigned w64 ((C +ℤ S) *ℤ c +ℤ C *ℤ (s -ℤ c))
  second_fits = within_fits (within_add h.steps.m1 h.steps.m3) (lit< tt)

  first_is : kept (kept (kept (kept C +ℤ kept S) *ℤ kept c) -ℤ kept (kept S *ℤ kept (kept c +ℤ kept s))) ≡ c *ℤ C -ℤ s *ℤ S
  first_is = rw (first, to_z-of_z w64 _ first_fits) (first_form C S c s)

  second_is : kept (kept (kept (kept C +ℤ kept S) *ℤ kept c) +ℤ kept (kept C *ℤ kept (kept s -ℤ kept c))) ≡ s *ℤ C +ℤ c *ℤ S
  second_is = rw (second, to_z-of_z w64 _ second_fits) (second_form C S c s)

pub overflow_mul-m1 : goal.overflow_mul-m1
overflow_mul-m1 c =
    let h = all_fit c.ranges.c c.ranges.s c.ranges.cosine c.ranges.sine c.requires.cosine_bound c.requires.c_bound in
    rw (m1 h) (m1_fits h)

pub overflow_mul-m2 : goal.overflow_mul-m2
overflow_mul-m2 c =
    let h = all_fit c.ranges.c c.ranges.s c.ranges.cosine c.ranges.sine c.requires.cosine_bound c.requires.c_bound in
    rw (m2 h) (m2_fits h)

pub overflow_mul-m3 : goal.overflow_mul-m3
overflow_mul-m3 c =
    let h = all_fit c.ranges.c c.ranges.s c.ranges.cosine c.ranges.sine c.requires.cosine_bound c.requires.c_bound in
    rw (m3 h) (m3_fits h)

pub overflow_sub-m1 : goal.overflow_sub-m1
overflow_sub-m1 c =
    let h = all_fit c.ranges.c c.ranges.s c.ranges.cosine c.ranges.sine c.requires.cosine_bound c.requires.c_bound in
    rw (first h) (first_fits h)

pub round-low-requires : goal.round-low-requires
round-low-requires c =
    let h = all_fit c.ranges.c c.ranges.s c.ranges.cosine c.ranges.sine c.requires.cosine_bound c.requires.c_bound in
    rw (first h, to_z-of_z w64 _ (first_fits h)) (within_size (within_sub h.steps.m1 h.steps.m2))

pub overflow_add-m1 : goal.overflow_add-m1
overflow_add-m1 c =
    let h = all_fit c.ranges.c c.ranges.s c.ranges.cosine c.ranges.sine c.requires.cosine_bound c.requires.c_bound in
    rw (second h) (second_fits h)

pub round-high-requires : goal.round-high-requires
round-high-requires c =
    let h = all_fit c.ranges.c c.ranges.s c.ranges.cosine c.ranges.sine c.requires.cosine_bound c.requires.c_bound in
    rw (second h, to_z-of_z w64 _ (second_fits h)) (within_size (within_add h.steps.m1 h.steps.m3))

pub returns : goal.returns
returns c =
    let h = all_fit c.ranges.c c.ranges.s c.ranges.cosine c.ranges.sine c.requires.cosine_bound c.requires.c_bound in
    let low = rw (first_is h) at c.round-low.ensures in
    let high = rw (second_is h) at c.round-high.ensures in
    record {
      low = to_z-of_z w64 c.round-low.result.value (search rules) ∙ low.0;
      high = to_z-of_z w64 c.round-high.result.value (search rules) ∙ high.0;
      three_products = search rules;
      three_sums = search rules;
      larger_rest = c.max.ensures ∙ ap₂ max
          (c.unsigned_abs.ensures.value ∙ ap nat_abs (to_z-of_z w64 c.round-low.result.rest (search rules) ∙ low.1))
          (c.unsigned_abs-2.ensures.value ∙ ap nat_abs (to_z-of_z w64 c.round-high.result.rest (search rules) ∙ high.1));
    }
