-- Written and read, and read and written: the file of an accepted input gives the input back, and no other file does; with both calls'
-- promises joined.
-- Assumes nothing.
use mathlib.Core.Bool.{false}
use mathlib.Core.List.{List, [], ◌∷◌}
use mathlib.Core.Path.{◌≡◌, refl, sym, ◌∙◌}
use Prim.Native.Nat.{ℕ, ◌≤◌, ◌<◌}
use native.Mathlib.Omega.{arith}
use lib.IntN.{ℤ, pos}
use lib.ListN.{length, take}
use lib.Seq.{length-take-le, get_or-take}
use Rattle.words.specs.Words.{Samples, word, Written}
use Rattle.words.proofs.Writing.{front, written_same}
use Rattle.refusals.specs.Refusals.{accepted, some_below}
use Rattle.refusals.proofs.Conditions.{AllReach, all_reach, reach_all}
use Rattle.pairfile.specs.File.{sample_count, file_bytes, file_verdict}
use Rattle.pairfile.specs.OwnFile.{pair_file, write_verdict}
use Rattle.refusals.specs.Answers.{answered}
use Rattle.pairfile.specs.Answers.{sizes_of}
use Rattle.pairfile.specs.Promises.{ReadDone, ReadPromise}
use Rattle.pairfile.specs.Laws.{Reads, InputReadBack, InputHasOneFile, WrittenAndRead, ReadAndWritten}
use Rattle.pairfile.proofs.Verdicts.{count_good, Passed3, accepted_3, file_accepted}
use Rattle.pairfile.proofs.WriteVerdicts.{Passed, input_passed, input_accepted}
use Rattle.pairfile.proofs.OneFile.{one_file}
use Rattle.pairfile.proofs.OwnFiles.{file_length, own_reads, own_bytes}

-- ---- an accepted input
module _ (a b : List ℤ) (N room : ℕ) (s : Passed a b N room) where
  reads : Reads (pair_file a b N) (length a) N (word a) (word b)
  reads = own_reads a b N s.same s.sound

  file_read : (lent : List ℕ) → some_below (length a) lent ≡ false → file_verdict (pair_file a b N) lent ≡ accepted
  file_read lent reach =
      let t = s.sound in
      let bytes = file_length a b N s.same in
      file_accepted (pair_file a b N) lent
      (record {
        past = record {
          past = record { header = omega (arith, bytes); count = rw reads.count (count_good (length a) t.some t.most) };
          bytes = rw reads.count bytes;
        };
        length_ok = rw reads.blocks t.length_ok;
        reach = rw reads.count reach;
      })
      (λ n h. let l = rw reads.count at h in rw (reads.of_a n l) (t.range_of_a n l))
      (λ n h. let l = rw reads.count at h in rw (reads.of_b n l) (t.range_of_b n l))

pub input_read_back : InputReadBack
input_read_back a b N room ok = let s = input_passed a b N room ok in (file_read a b N room s, reads a b N room s)

pub input_has_one_file : InputHasOneFile
input_has_one_file a b N room ok file lent bytes accepts r =
    let s = input_passed a b N room ok in
    let own = reads a b N room s in
    one_file file (pair_file a b N) lent [] bytes (own_bytes a b N) accepts (file_read a b N room s [] refl)
    (record {
      count = r.count ∙ sym own.count;
      blocks = r.blocks ∙ sym own.blocks;
      of_a = λ n h. let l = rw own.count at h in r.of_a n l ∙ sym (own.of_a n l);
      of_b = λ n h. let l = rw own.count at h in r.of_b n l ∙ sym (own.of_b n l);
    })

-- ---- both calls
pub written_and_read : WrittenAndRead
written_and_read a b N buffer buffer' wrote p ok c d c' d' answer q for-a for-b =
    record {
      verdict = is_accepted;
      count = count;
      blocks = done.length_is ∙ back.blocks;
      words_of_a = written_same done.words_of_a (sym count) back.of_a;
      words_of_b = written_same done.words_of_b (s.same ∙ sym count) (λ n h. back.of_b n (omega (arith, s.same)));
    }
  where
    s : Passed a b N (length buffer)
    s = input_passed a b N (length buffer) (sym p.verdict ∙ ok)

    back : Reads (pair_file a b N) (length a) N (word a) (word b)
    back = reads a b N (length buffer) s

    promise : ReadPromise (pair_file a b N) c d c' d' answer
    promise = rw (p.done ok).file.front at q

    is_accepted : answered answer ≡ accepted
    is_accepted =
        promise.verdict ∙ file_read a b N (length buffer) s (length c ∷ length d ∷ [])
        (all_reach (length a) (length c ∷ length d ∷ []) (for-a, (for-b, tt)))

    done : ReadDone (pair_file a b N) c d c' d' (sizes_of answer).samples (sizes_of answer).length
    done = promise.done is_accepted

    count : (sizes_of answer).samples ≡ length a
    count = done.samples_is ∙ back.count

-- the first m words of a recording that hold the samples z
module _ (m : ℕ) {z : Samples} {before recording : List ℤ} (w : Written 0 m z before recording) (reach : m ≤ length before) where
  kept : length (take m recording) ≡ m
  kept = length-take-le m recording (omega (arith, w.len))

  holds : (n : ℕ) → n < m → word (take m recording) n ≡ z n
  holds n h = get_or-take m recording n (pos 0) h ∙ front w n h

-- what was read of a file, as an input
module _ (file : List ℕ) (a b a' b' : List ℤ) (m N : ℕ) (done : ReadDone file a b a' b' m N)
    (for-a : m ≤ length a) (for-b : m ≤ length b) where
  abbrev x : List ℤ
  x = take m a'

  abbrev y : List ℤ
  y = take m b'

  of_a_lem : length x ≡ m
  of_a_lem = kept m done.words_of_a for-a

  of_b_lem : length y ≡ m
  of_b_lem = kept m done.words_of_b for-b

  read_passed : (room : ℕ) → file_bytes m ≤ room → Passed x y N room
  read_passed room fits =
      let s = done.sound in
      record {
        same = of_b_lem ∙ sym of_a_lem;
        sound = record {
          some = omega (arith, of_a_lem, s.some);
          most = omega (arith, of_a_lem, s.most);
          length_ok = s.length_ok;
          range_of_a = λ n h. let l = rw of_a_lem at h in rw (holds m done.words_of_a for-a n l) (s.range_of_a n l);
          range_of_b = λ n h. let l = rw of_a_lem at h in rw (holds m done.words_of_b for-b n l) (s.range_of_b n l);
        };
        fits = omega (arith, of_a_lem);
      }

  read_reads : Reads file (length x) N (word x) (word y)
  read_reads = record {
    count = sym done.samples_is ∙ sym of_a_lem;
    blocks = sym done.length_is;
    of_a = λ n h. let l = rw of_a_lem at h in sym (holds m done.words_of_a for-a n l);
    of_b = λ n h. let l = rw of_a_lem at h in sym (holds m done.words_of_b for-b n l);
  }

pub read_and_written : ReadAndWritten
read_and_written file a b a' b' answer bytes p ok buffer buffer' wrote q room =
    (is_accepted, (q.done is_accepted).file.front ∙ sym (input_has_one_file _ _ N (length buffer) stated file lent bytes verdict same))
  where
    m : ℕ
    m = (sizes_of answer).samples

    N : ℕ
    N = (sizes_of answer).length

    lent : List ℕ
    lent = length a ∷ length b ∷ []

    verdict : file_verdict file lent ≡ accepted
    verdict = sym p.verdict ∙ ok

    done : ReadDone file a b a' b' m N
    done = p.done ok

    passed : Passed3 file lent
    passed = accepted_3 file lent verdict

    reach : AllReach m lent
    reach = rw done.samples_is (reach_all (sample_count file) lent passed.reach)

    same : Reads file (length (take m a')) N (word (take m a')) (word (take m b'))
    same = read_reads file a b a' b' m N done reach.0 reach.1.0

    stated : write_verdict (take m a') (take m b') N (length buffer) ≡ accepted
    stated =
        input_accepted _ _ N (length buffer)
        (read_passed file a b a' b' m N done reach.0 reach.1.0 (length buffer)
        (omega (arith, passed.past.bytes, done.samples_is)))

    is_accepted : answered wrote ≡ accepted
    is_accepted = q.verdict ∙ stated
