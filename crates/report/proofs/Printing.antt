-- From two recordings to the lines of their blocks: a block that fits is accepted by Pair, and its lines are those of Pair's definition.
-- Assumes nothing.
use mathlib.Core.Bool.{true}
use mathlib.Core.Path.{◌≡◌, refl, ◌∙◌}
use mathlib.Core.List.{List}
use Prim.Native.Nat.{ℕ, ◌+◌, ◌*◌, ◌/◌, ◌≤◌, ◌<◌}
use native.Mathlib.Nat.{mul-le-mul_left, mul-le-mul_right, suc-mul, div-mul-le_self}
use native.Mathlib.Numerals.{add-one}
use native.Mathlib.Omega.{arith}
use lib.IntN.{ℤ}
use lib.ListN.{length}
use lib.Pow.{pow_pos}
use Rattle.words.specs.Words.{Samples, word}
use Rattle.lengths.specs.Block.{is_length, level}
use Rattle.ffct.specs.Transforms.{pair as pair_of}
use Rattle.lengths.proofs.ElevenLengths.{is_power}
use Rattle.refusals.specs.Refusals.{block, accepted}
use Rattle.refusals.proofs.Calls.{is_accepted}
use Rattle.std.specs.Prelude.{Result}
use Rattle.counts.specs.declared.tally.Tally.{Tally}
use Rattle.refusals.specs.declared.refusal.Refusal.{Refusal}
use Rattle.spectra.specs.Answers.{spent}
use Rattle.spectra.specs.Promises.{PairBuffers, PairDone, PairPromise}
use Rattle.words.specs.Put.{Put}
use Rattle.words.proofs.Putting.{◌then◌, joined_none, joined_more}
use Rattle.report.specs.Lines.{heading}
use Rattle.report.specs.Output.{lines_at, block_lines, spectra}
use Rattle.report.specs.Puts.{Printable, Kept, PutFrom}

-- ---- Pair accepts a block of recordings that are printable up to its end
module _ (i : ℕ) {N allowance : ℕ} {a b : List ℤ} {work work' : PairBuffers} (answer : Result Tally Refusal) where
  pub pair_done : Printable (i * N + N) N a b work → ((x y : Samples) → allowance ≡ (pair_of (level N) x y).products)
      → PairPromise a b (i * N) N allowance work work' answer
      → PairDone N (block a (i * N)) (block b (i * N)) allowance work work' (spent answer)
  pair_done p e promise = promise.done (promise.verdict ∙ is_accepted (record {
    length_ok = p.length_ok;
    recordings = (p.words_of_a, (p.words_of_b, tt));
    results = (p.real_words, (p.imaginary_words, tt));
    scratch = p.scratch_fits;
    allowance = omega (arith, e (block a (i * N)) (block b (i * N)));
    range = ((λ j _ l. p.range_of_a j l), ((λ j _ l. p.range_of_b j l), tt));
  }) accepted)

-- ---- the number of a block, and the lines of all blocks up to it, are small
pub some_samples : (N : ℕ) → is_length N ≡ true → 1 ≤ N
some_samples N h = omega (arith, is_power N h, pow_pos (level N))

pub few_blocks : (i N m : ℕ) → is_length N ≡ true → i * N + N ≤ m → i < m
few_blocks i N m h l = omega (arith, some_samples N h, mul-le-mul_left i (some_samples N h))

pub whole_blocks : (i m N : ℕ) → is_length N ≡ true → i ≤ m / N → i * N ≤ m
whole_blocks i m N h l = omega (arith, some_samples N h, mul-le-mul_right N l, div-mul-le_self m N)

pub next_block : (i N : ℕ) → (i + 1) * N ≡ i * N + N
next_block i N = rw add-one (suc-mul i N)

-- ---- what the loop over the blocks puts: nothing yet, and one block more
kept_both : {u v w : PairBuffers} → Kept u v → Kept v w → Kept u w
kept_both a b = record { real = b.real ∙ a.real; imaginary = b.imaginary ∙ a.imaginary; scratch = b.scratch ∙ a.scratch }

module _ (N : ℕ) (a b : Samples) {at : ℕ} {page : List ℕ} {work : PairBuffers} where
  pub no_blocks : at ≤ length page → PutFrom page at (block_lines N a b 0) (34 * (0 * N)) at page work work
  no_blocks h = record { put = joined_none _ h; fits = omega arith; kept = record { real = refl; imaginary = refl; scratch = refl } }

  pub one_more : (i : ℕ) {next next' : ℕ} {page' page'' : List ℕ} {work' work'' : PairBuffers}
      → PutFrom page at (block_lines N a b i) (34 * (i * N)) next page' work work'
      → PutFrom page' next (lines_at N a b i) (34 * N) next' page'' work' work''
      → PutFrom page at (block_lines N a b (i + 1)) (34 * ((i + 1) * N)) next' page'' work work''
  one_more i p q = record {
    put = joined_more _ i p.put q.put;
    fits = omega (arith, p.fits, q.fits, next_block i N);
    kept = kept_both p.kept q.kept;
  }

-- ---- a run of `put_spectra`: the heading is put, and the blocks before number i
module _ (m N : ℕ) (a b : List ℤ) {work : PairBuffers} (k : Printable m N a b work)
    {at : ℕ} {page page₁ : List ℕ} (h : Put page 0 heading at page₁) (i : ℕ) {next : ℕ} {page' : List ℕ}
    {work' : PairBuffers} (p : PutFrom page₁ at (block_lines N (word a) (word b) i) (34 * (i * N)) next page' work work') where
  fits : i < m / N → i * N + N ≤ m
  fits l = omega (arith, whole_blocks (i + 1) m N k.length_ok (omega arith), next_block i N)

  pub block_ready : i < m / N → Printable (i * N + N) N a b work'
  block_ready l = record {
    length_ok = k.length_ok;
    most = omega (arith, fits l, k.most);
    words_of_a = omega (arith, fits l, k.words_of_a);
    words_of_b = omega (arith, fits l, k.words_of_b);
    range_of_a = λ n h. k.range_of_a n (omega (arith, fits l));
    range_of_b = λ n h. k.range_of_b n (omega (arith, fits l));
    real_words = omega (arith, k.real_words, p.kept.real);
    imaginary_words = omega (arith, k.imaginary_words, p.kept.imaginary);
    scratch_fits = omega (arith, k.scratch_fits, p.kept.scratch);
  }

  pub block_room : i < m / N → 14 + 34 * m ≤ length page → next + 34 * N ≤ length page'
  block_room l room = omega (arith, fits l, h.next_is, h.len, p.fits, p.put.len)

  pub spectra_put : i ≤ m / N → m / N ≤ i → PutFrom page 0 (spectra m N (word a) (word b)) (14 + 34 * m) next page' work work'
  spectra_put l g =
      let all : i ≡ m / N = omega arith in
      record {
        put = rw all at (h then p.put);
        fits = omega (arith, p.fits, h.next_is, whole_blocks i m N k.length_ok l);
        kept = p.kept;
      }
