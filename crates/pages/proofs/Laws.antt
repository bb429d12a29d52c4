-- The laws of a page: its length, and that it reads back. Assumes nothing.
use mathlib.Core.Bool.{true}
use mathlib.Core.Logic.{⊎_elim}
use mathlib.Core.Path.{◌≡◌, refl, sym, ap, ◌∙◌}
use mathlib.Core.List.{List, ◌++◌, append_assoc}
use Prim.Native.Nat.{ℕ, zero, suc, ◌*◌, ◌/◌, ◌^◌, ◌≤◌, ◌<◌}
use native.Mathlib.Nat.{pow-succ'}
use native.Mathlib.Omega.{arith}
use lib.IntN.{ℤ}
use lib.ListN.{length, take, drop, length-append}
use lib.Pow.{pow_pos}
use lib.Seq.{take-append_seam, drop-append_seam}
use mir.Syntax.{w32}
use mir.Val.{SFits}
use Rattle.whole.proofs.Cases.{le_or_lt, same_or_not}
use Rattle.words.specs.Put.{joined}
use Rattle.words.proofs.Putting.{joined_length}
use Rattle.lengths.specs.Block.{is_length, level, spectrum_yields}
use Rattle.lengths.proofs.ElevenLengths.{is_power}
use Rattle.text.specs.Decimal.{space, line_feed, number, decimal}
use Rattle.text.specs.Alignment.{right_aligned}
use Rattle.text.proofs.Alignment.{aligned_length}
use Rattle.text.proofs.Reading.{aligned_back}
use Rattle.pages.specs.Page.{columns, heading, line, lines, page}
use Rattle.pages.specs.Laws.{IndexFits, LinesOf31, Stored, PageLength, ReadsBack}
use Rattle.pages.proofs.Lines.{heading_length, number_fits, coefficient_fits, line_length, few_lines}

-- ---- widths and lengths
small : (k N : ℕ) → is_length N ≡ true → k < spectrum_yields N → k < 10000
small k N ok h = omega (arith, few_lines N ok)

pub index_fits : IndexFits
index_fits k N ok h = number_fits k (small k N ok h)

pub lines_of_31 : LinesOf31
lines_of_31 = (heading_length, λ k N c s ok h f g. line_length k c s (small k N ok h) f g)

-- the first lines of n, with coefficients of 32 bits
abbrev FitBelow : ℕ → (ℕ → ℤ) → Type 0
FitBelow n c = (k : ℕ) → k < n → SFits w32 (c k)

module _ (c s : ℕ → ℤ) (n : ℕ) (few : n ≤ 10000) (f : FitBelow n c) (g : FitBelow n s) where
  lines_length : (k : ℕ) → k ≤ n → length (lines c s k) ≡ 31 * k
  lines_length k h =
      joined_length _ 31 k (λ i l. line_length i (c i) (s i) (omega arith) (f i (omega arith)) (g i (omega arith)))

pub page_length : PageLength
unfolding page
page_length N c s ok f g =
    omega (
      arith,
      length-append heading (lines c s (spectrum_yields N)),
      heading_length,
      lines_length c s (spectrum_yields N) (omega (arith, few_lines N ok)) f g (spectrum_yields N) (omega arith),
    )

-- ---- two texts of one length, each with one behind it
same_parts : {a b : List ℕ} (u v : List ℕ) → length a ≡ length b → a ++ u ≡ b ++ v → (a ≡ b) × (u ≡ v)
same_parts {a} {b} u v l e = (
  sym (take-append_seam a u) ∙ ap (take (length a)) e ∙ rw l (take-append_seam b v),
  sym (drop-append_seam a u) ∙ ap (drop (length a)) e ∙ rw l (drop-append_seam b v),
)

-- ---- a line is that of one coefficient of each kind
abbrev behind_cosine : ℤ → List ℕ
behind_cosine s = space ++ (right_aligned 12 (decimal s) ++ line_feed)

abbrev behind_index : ℤ → ℤ → List ℕ
behind_index c s = space ++ (right_aligned 12 (decimal c) ++ behind_cosine s)

in_parts : (k : ℕ) (c s : ℤ) → line k c s ≡ right_aligned 4 (number k) ++ behind_index c s
unfolding columns
in_parts k c s = simp append_assoc

same_width : (x y : ℤ) → SFits w32 x → SFits w32 y → length (right_aligned 12 (decimal x)) ≡ length (right_aligned 12 (decimal y))
same_width x y f g = aligned_length 12 (decimal x) (coefficient_fits x f) ∙ sym (aligned_length 12 (decimal y) (coefficient_fits y g))

line_back : (k : ℕ) (c s d t : ℤ) → SFits w32 c → SFits w32 s → SFits w32 d → SFits w32 t → line k c s ≡ line k d t → (c ≡ d) × (s ≡ t)
line_back k c s d t f g i j e =
    let index = right_aligned 4 (number k) in
    let same = sym (in_parts k c s) ∙ e ∙ in_parts k d t in
    let behind = (same_parts {a = index} {b = index} (behind_index c s) (behind_index d t) refl same).1 in
    let (of_cosine, rest) = same_parts (behind_cosine s) (behind_cosine t) (same_width c d f i) (ap (drop 1) behind) in
    let (of_sine, _) = same_parts line_feed line_feed (same_width s t g j) (ap (drop 1) rest) in (
      aligned_back 12 c d (coefficient_fits c f) (coefficient_fits d i) of_cosine,
      aligned_back 12 s t (coefficient_fits s g) (coefficient_fits t j) of_sine,
    )

-- ---- so are the lines
module _ (c s d t : ℕ → ℤ) (n : ℕ) (few : n ≤ 10000)
    (f : FitBelow n c) (g : FitBelow n s) (i : FitBelow n d) (j : FitBelow n t) where
  lines_back : (m : ℕ) → m ≤ n → lines c s m ≡ lines d t m → (k : ℕ) → k < m → (c k ≡ d k) × (s k ≡ t k)
  unfolding joined
  lines_back zero h e k l = absurd (omega arith)
  lines_back (suc m) h e k l =
      let wide = lines_length c s n few f g m (omega arith) ∙ sym (lines_length d t n few i j m (omega arith)) in
      let (front, last) = same_parts (line m (c m) (s m)) (line m (d m) (t m)) wide e in
      ⊎_elim
      (λ last-k. rw last-k (line_back m (c m) (s m) (d m) (t m) (f m h) (g m h) (i m h) (j m h) last))
      (λ before. lines_back m (omega arith) front k (omega arith))
      (same_or_not k m)

-- ---- and the page, whose length tells N: it is 1 or even
even : (L N : ℕ) → N ≡ 2 ^ L → 2 ≤ N → N / 2 * 2 ≡ N
even zero N e h = absurd (omega arith)
even (suc L) N e h = omega (arith, pow-succ' 2 L)

half_tells : (N M : ℕ) → is_length N ≡ true → is_length M ≡ true → N / 2 ≡ M / 2 → N ≡ M
half_tells N M a b e =
    let p = is_power N a in
    let q = is_power M b in
    ⊎_elim
    (λ h. omega (arith, even (level N) N p h, even (level M) M q (omega arith)))
    (λ h. omega (arith, p, q, pow_pos (level N), pow_pos (level M)))
    (le_or_lt 2 N)

pub reads_back : ReadsBack
unfolding page
reads_back N M c s d t a b f g i j e =
    let halves : N / 2 ≡ M / 2 = omega (arith, sym (page_length N c s a f g) ∙ ap length e ∙ page_length M d t b i j) in
    let same = half_tells N M a b halves in
    let (_, below) = same_parts {a = heading} {b = heading} (lines c s (spectrum_yields N)) (lines d t (spectrum_yields M)) refl e in
    let lines_same : lines c s (spectrum_yields N) ≡ lines d t (spectrum_yields N) = rw (← same) at below in
    let i' : Stored N d = rw (← same) at i in
    let j' : Stored N t = rw (← same) at j in
    (same, lines_back c s d t (spectrum_yields N) (omega (arith, few_lines N a)) f g i' j' (spectrum_yields N) (omega arith) lines_same)
