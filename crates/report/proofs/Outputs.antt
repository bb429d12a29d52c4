-- The whole output: that of a file that is turned down, and that of a file that was read, from the recordings that hold its samples.
-- Assumes nothing.
use mathlib.Core.Bool.{true}
use mathlib.Core.Path.{◌≡◌, refl, sym, ap, ap₂, subst, ◌∙◌}
use mathlib.Core.List.{List, [], ◌∷◌, ◌++◌}
use Prim.Native.Nat.{ℕ, ◌+◌, ◌*◌, ◌/◌, ◌≤◌, ◌<◌}
use native.Mathlib.Nat.{mul-le-mul_right}
use native.Mathlib.Omega.{arith}
use lib.IntN.{ℤ}
use lib.ListN.{length, take}
use Rattle.words.specs.Words.{Samples, word}
use Rattle.words.proofs.Writing.{front}
use Rattle.words.proofs.Putting.{joined_same}
use Rattle.lengths.specs.Block.{is_length, level}
use Rattle.lengths.proofs.Lengths.{pow_len}
use Rattle.lengths.proofs.ElevenLengths.{is_power, length_le}
use Rattle.ffct.proofs.Blocks.{pair_same}
use Rattle.refusals.specs.declared.refusal.Refusal.{Refusal}
use Rattle.refusals.specs.Refusals.{Verdict, refused_at, accepted, number, scratch_words}
use Rattle.refusals.specs.Answers.{verdict_of, answered}
use Rattle.refusals.proofs.Promises.{refuses}
use Rattle.words.specs.Put.{Put}
use Rattle.pairfile.specs.declared.reader.Sizes.{Sizes}
use Rattle.std.specs.Prelude.{Result, Ok, Err}
use Rattle.pairfile.specs.File.{sample_count, block_length, samples_of_a, samples_of_b, most_samples, file_verdict}
use Rattle.pairfile.specs.Promises.{ReadDone, ReadPromise}
use Rattle.pairfile.specs.Laws.{first_bytes}
use Rattle.pairfile.proofs.Longer.{longer}
use Rattle.report.specs.Lines.{heading, refusal, lines}
use Rattle.spectra.specs.Promises.{PairBuffers}
use Rattle.report.specs.Output.{pair_at, block_lines, spectra, printed, output, LongerOutput}
use Rattle.report.specs.Puts.{Printable, PutFrom, OutputPut}
use Rattle.report.proofs.Printing.{whole_blocks, next_block}

-- ---- equal recordings have equal lines
module _ {m : ℕ} (N : ℕ) (ok : is_length N ≡ true) (a a' b b' : Samples)
    (e : (n : ℕ) → n < m → a n ≡ a' n) (d : (n : ℕ) → n < m → b n ≡ b' n) where
  same_pair : (i : ℕ) → i * N + N ≤ m → pair_at N a b i ≡ pair_at N a' b' i
  same_pair i h = pair_same (level N) _ _ _ _
      (λ n l. e (i * N + n) (omega (arith, pow_len (level N), is_power N ok)))
      (λ n l. d (i * N + n) (omega (arith, pow_len (level N), is_power N ok)))

  pub same_blocks : (count : ℕ) → count * N ≤ m → block_lines N a b count ≡ block_lines N a' b' count
  same_blocks count h =
      joined_same _ _ count (λ i l.
      let up : i + 1 ≤ count = omega arith in
      let fits : i * N + N ≤ m = omega (arith, next_block i N, mul-le-mul_right N up) in
      ap (λ p. lines i p.real p.imaginary N) (same_pair i fits))

-- ---- the output, by the reader's verdict
module _ (file : List ℕ) where
  refused_output : (v : Verdict) → v ≡ file_verdict file (most_samples ∷ most_samples ∷ []) → (v ≡ accepted → ⊥)
      → output file ≡ refusal (number v)
  unfolding output
  refused_output (refused_at n place) e never = rw (sym e) refl
  refused_output accepted e never = absurd (never refl)

  read_output : file_verdict file (most_samples ∷ most_samples ∷ []) ≡ accepted
      → output file ≡ spectra (sample_count file) (block_length file) (samples_of_a file) (samples_of_b file)
  unfolding output
  read_output e = rw e refl

-- ---- a run of `put_output`: the reader's answer, then a refusal's line or the spectra
module _ (file : List ℕ) (a b a' b' : List ℤ) (answer : Result Sizes Refusal) (r : ReadPromise file a b a' b' answer)
    (of_a : length a ≡ most_samples) (of_b : length b ≡ most_samples) where
  promised : {is : Result Sizes Refusal} → answer ≡ is → ReadPromise file a b a' b' is
  promised e = subst (λ is. ReadPromise file a b a' b' is) e r

  verdict : {is : Result Sizes Refusal} → answer ≡ is → answered is ≡ file_verdict file (most_samples ∷ most_samples ∷ [])
  verdict e = rw (of_a, of_b) at (promised e).verdict

  pub refusal_put : {why : Refusal} → answer ≡ Err why → {n : ℕ} → n ≡ number (verdict_of why)
      → {next : ℕ} {page page' : List ℕ} {work : PairBuffers} → Put page 0 (refusal n) next page'
      → OutputPut file page next page' a b work a' b' work
  refusal_put {why} e is p =
      let stay = (promised e).unchanged (refuses why) in
      record {
        put = rw (refused_output file _ (verdict e) (refuses why)) (rw is at p);
        words_of_a = ap length stay.0;
        words_of_b = ap length stay.1;
        kept = record { real = refl; imaginary = refl; scratch = refl };
      }

  module _ (sizes : Sizes) (e : answer ≡ Ok sizes) where
    abbrev m : ℕ
    m = sizes.samples

    abbrev N : ℕ
    N = sizes.length

    done : ReadDone file a b a' b' m N
    done = (promised e).done refl

    pub spectra_room : (page : List ℕ) → 139278 ≤ length page → 14 + 34 * m ≤ length page
    spectra_room page room = omega (arith, done.sound.most)

    pub spectra_ready : {work : PairBuffers} → 1024 ≤ length work.real → 1024 ≤ length work.imaginary
        → scratch_words 1024 ≤ length work.scratch → Printable m N a' b' work
    spectra_ready h i j =
        let short = length_le N done.sound.length_ok in
        record {
          length_ok = done.sound.length_ok;
          most = done.sound.most;
          words_of_a = omega (arith, done.sound.most, done.words_of_a.len);
          words_of_b = omega (arith, done.sound.most, done.words_of_b.len);
          range_of_a = λ n l. rw (front done.words_of_a n l) (done.sound.range_of_a n l);
          range_of_b = λ n l. rw (front done.words_of_b n l) (done.sound.range_of_b n l);
          real_words = omega arith;
          imaginary_words = omega arith;
          scratch_fits = omega arith;
        }

    read_spectra : spectra m N (word a') (word b') ≡ spectra (sample_count file) (block_length file) (samples_of_a file) (samples_of_b file)
    read_spectra =
        let ok = done.sound.length_ok in
        let same = same_blocks N ok (word a') (samples_of_a file) (word b') (samples_of_b file)
        (front done.words_of_a)
        (front done.words_of_b) in
        ap (λ l. heading ++ l) (same (m / N) (whole_blocks (m / N) m N ok (omega arith)))
        ∙ ap₂ (λ m N. spectra m N (samples_of_a file) (samples_of_b file)) done.samples_is done.length_is

    pub spectra_put : {most next : ℕ} {page page' : List ℕ} {work work' : PairBuffers}
        → PutFrom page 0 (spectra m N (word a') (word b')) most next page' work work' → OutputPut file page next page' a b work a' b' work'
    spectra_put p = record {
      put = rw (read_output file (sym (verdict e)) ∙ sym read_spectra) p.put;
      words_of_a = done.words_of_a.len;
      words_of_b = done.words_of_b.len;
      kept = p.kept;
    }

-- ---- the output for a longer file is that for its first 32,777 bytes, which `pairspec` reads
same_print : (v : Verdict) (f g : List ℕ) → (v ≡ accepted → f ≡ g) → printed f v ≡ printed g v
same_print (refused_at n place) f g e = refl
same_print accepted f g e = ap (λ f. printed f accepted) (e refl)

pub longer_output : LongerOutput
unfolding output
longer_output file =
    let lent = most_samples ∷ most_samples ∷ [] in
    let l = longer file lent in
    ap (printed (take first_bytes file)) l.verdict ∙ same_print (file_verdict file lent) (take first_bytes file) file l.whole
