-- An accepted call: what it has left behind, from what the functions on a block promise.
-- Assumes nothing.
use mathlib.Core.Path.{◌≡◌, refl, sym, ap, ◌∙◌}
use mathlib.Core.Bool.{true}
use mathlib.Core.List.{List, ◌++◌}
use Prim.Native.Nat.{ℕ, ◌+◌, ◌-◌, ◌/◌, ◌≤◌, ◌<◌}
use native.Mathlib.Omega.{arith}
use lib.IntN.{ℤ, pos, nat_abs}
use lib.ListN.{length, take, drop, length-drop, get_or-append}
use lib.Seq.{length-take-le, length_front, get_or-take, get_or-drop, get_or-append-add}
use Rattle.words.specs.Words.{word, Written}
use Rattle.words.proofs.Writing.{front}
use Rattle.lengths.specs.Block.{AcceptedBlock, is_length, level, largest_sample}
use Rattle.ffct.specs.Transforms.{dct, spectrum, pair}
use Rattle.lengths.proofs.ElevenLengths.{is_power, as_len, length_pos, some_level, one_level}
use Rattle.ffct.proofs.Blocks.{Same, dct_same, spectrum_same, pair_same}
use Rattle.ffct.proofs.Counts.{published}
use Rattle.ffct.proofs.Limits.{limits, pair_limits}
use Rattle.counts.specs.declared.tally.Tally.{Tally}
use Rattle.blocks.specs.Blocks.{Workable, CosineMade, SpectrumMade, PairMade}
use Rattle.blocks.proofs.BlockRuns.{accepted}
use Rattle.refusals.specs.Refusals.{scratch_words, block}
use Rattle.refusals.specs.Passes.{AllWithin}
use Rattle.refusals.specs.Calls.{Call, tests}
use Rattle.refusals.specs.Tests.{Tells}
use Rattle.refusals.proofs.Promises.{carried_out}
use Rattle.refusals.proofs.Calls.{Passes, is_accepted, accepted_by, accepted_call}
use Rattle.std.specs.Prelude.{Ok, ⊤}
use Rattle.spectra.specs.Promises.{Spends, CosinePromise, cosine_call, buffers, SpectrumPromise, spectrum_call}
use Rattle.spectra.specs.Promises.{pair_buffers, PairPromise, pair_call}

-- ---- the block of N samples from s on, lent as a slice of the recording r
abbrev pub part : List ℤ → ℕ → ℕ → List ℤ
part r s N = take (s + N - s) (drop s r)

-- ---- a recording in which a block of N samples is accepted
pub record Fit (recording : List ℤ) (start N : ℕ) : Type 0 where
  pub length_ok : is_length N ≡ true
  pub inside : start + N ≤ length recording
  pub range : AllWithin largest_sample (word recording) start (start + N)

pub fit : {call : Call} (recording : List ℤ) → Passes call → call.start + call.N ≤ length recording
    → AllWithin largest_sample (word recording) call.start (call.start + call.N) → Fit recording call.start call.N
fit recording p inside range = record { length_ok = p.length_ok; inside = inside; range = range }

module _ {recording : List ℤ} {start N : ℕ} (f : Fit recording start N) where
  in_range_lem : (n : ℕ) → n < N → nat_abs (word recording (start + n)) ≤ largest_sample
  in_range_lem n h = f.range (start + n) (omega arith) (omega arith)

  fit_block : AcceptedBlock (level N) (block recording start)
  fit_block = accepted (record { length_ok = f.length_ok; range = in_range_lem })

  pub fit_length : length (part recording start N) ≡ N
  fit_length =
      length-take-le (start + N - start) (drop start recording) (omega (arith, f.inside, length-drop start recording)) ∙ omega arith

  fit_word : (k : ℕ) → k < N → word (part recording start N) k ≡ word recording (start + k)
  fit_word k h = get_or-take (start + N - start) (drop start recording) k (pos 0) (omega arith) ∙ get_or-drop start recording k (pos 0)

  fit_same : Same (level N) (word (part recording start N)) (block recording start)
  fit_same k h = fit_word k (omega (arith, as_len N f.length_ok))

  pub fit_workable : (scratch : List ℤ) {m n : ℕ} → n ≡ N → m ≡ scratch_words N → scratch_words N ≤ length scratch
      → Workable n (part recording start N) (take m scratch)
  fit_workable scratch {m} e is room = rw e (record {
    whole = omega (arith, fit_length);
    block_ok = record {
      length_ok = f.length_ok;
      range = λ k h. rw (fit_word k h) (in_range_lem k h);
    };
    room = omega (arith, is, length-take-le m scratch (omega arith));
  })

level_of_one : {N : ℕ} → is_length N ≡ true → N < 2 → level N ≡ 0
level_of_one {N} ok h = one_level N (omega (arith, h, length_pos N ok))

-- the lent part of a buffer; and put back to its front
pub taken : (m : ℕ) (w : List ℤ) → m ≤ length w → m ≡ length (take m w)
taken m w h = sym (length-take-le m w h)

put_back : {m n : ℕ} {g : ℕ → ℤ} {w w' : List ℤ} → m ≡ n → m ≤ length w
    → Written 0 (length (take m w)) g (take m w) w' → Written 0 n g w (w' ++ drop m w)
put_back {m} {n} {g} {w} {w'} e h p =
    let len : length w' ≡ m = p.len ∙ length-take-le m w h in
    record {
      new = λ k l. get_or-append w' (drop m w) (pos 0) (0 + k) (omega (arith, l, len, e)) ∙ p.new k (omega (arith, l, len, p.len, e));
      low = λ k l. absurd (omega arith);
      high = λ k l.
          ap (word (w' ++ drop m w)) {x = k} {y = length w' + (k - m)} (omega (arith, l, len, e))
          ∙ get_or-append-add w' (drop m w) (k - m) (pos 0)
          ∙ get_or-drop m w (k - m) (pos 0)
          ∙ ap (word w) {x = m + (k - m)} {y = k} (omega (arith, l, e));
      len = length_front w w' m p.len;
    }

-- ---- what an accepted call asks of the functions on a block, and what it has done. m words of scratch are lent, and come back as w'
module _ (N m allowance : ℕ) (is : m ≡ scratch_words N) where
  spends : {products sums largest_rest from : ℕ} {P S : ℤ} {scratch w' : List ℤ} {spent : Tally}
      → (spent.products ≡ products) × (spent.sums ≡ sums) → spent.largest_rest ≡ largest_rest
      → Written 0 (length (take m scratch)) (λ k. pos 0) (take m scratch) w' → scratch_words N ≤ length scratch → products ≤ allowance
      → (from ≤ N → (pos products ≡ P) × (pos sums ≡ S)) → (N < from → (products ≡ 0) × (sums ≡ 0))
      → Spends N allowance products sums largest_rest from P S scratch (w' ++ drop m scratch) spent
  spends (products, sums) rest cleared room enough forms nothing = record {
    tallied = (products, sums);
    rest = rest;
    published = λ h. (ap pos products ∙ (forms h).0, ap pos sums ∙ (forms h).1);
    nothing_below = λ h. (products ∙ (nothing h).0, sums ∙ (nothing h).1);
    allowed = omega (arith, products);
    scratch_cleared = put_back is (omega (arith, is)) cleared;
  }

  module _ (start : ℕ) (r coefficients scratch : List ℤ) {u : ⊤}
      (t : Tells (tests (cosine_call r start N allowance coefficients scratch)) (Ok u)) where
    passed : Passes (cosine_call r start N allowance coefficients scratch)
    passed = accepted_by t

    fit_x : Fit r start N
    fit_x = fit r passed passed.recordings.0 passed.range.0

    pub cosine_ready : let n = length (part r start N) in Workable n (part r start N) (take m scratch) × (n ≤ length coefficients)
    cosine_ready = let e = fit_length fit_x in
        (fit_workable fit_x scratch e is passed.scratch, omega (arith, e, passed.results.0))

    pub cosine_done : {coefficients' w' : List ℤ} {spent : Tally} → let n = length (part r start N) in
        CosineMade n (dct (level n) (word (part r start N))) coefficients (take m scratch) coefficients' w' spent
        → CosinePromise r start N allowance coefficients scratch coefficients' (w' ++ drop m scratch) (Ok spent)
    cosine_done done =
        let x = block r start in
        let made = rw (fit_length fit_x, dct_same (level N) _ x (fit_same fit_x)) at done in
        let forms = published (level N) in
        let near = (limits (level N) x (fit_block fit_x)).dct in
        carried_out refl (is_accepted passed _) (record {
          block = fit_block fit_x;
          words = made.words;
          near = λ k h. rw (front made.words k h) ((rw (sym (is_power N fit_x.length_ok)) at near) k h);
          spends = spends made.tallied made.rest made.cleared passed.scratch passed.allowance
              (λ _. (forms.dct_p x, forms.dct_s x)) (λ h. absurd (omega (arith, h, length_pos N fit_x.length_ok)));
        })

  module _ (start : ℕ) (r cosine sine scratch : List ℤ) {u : ⊤}
      (t : Tells (tests (spectrum_call r start N allowance (buffers cosine sine scratch))) (Ok u)) where
    passed_r : Passes (spectrum_call r start N allowance (buffers cosine sine scratch))
    passed_r = accepted_by t

    fit_r : Fit r start N
    fit_r = fit r passed_r passed_r.recordings.0 passed_r.range.0

    pub spectrum_ready : let n = length (part r start N) in
        Workable n (part r start N) (take m scratch) × (n / 2 + 1 ≤ length cosine) × (n / 2 + 1 ≤ length sine)
    spectrum_ready = let e = fit_length fit_r in (
      fit_workable fit_r scratch e is passed_r.scratch,
      omega (arith, e, passed_r.results.0),
      omega (arith, e, passed_r.results.1.0),
    )

    pub spectrum_done : {cosine' sine' w' : List ℤ} {spent : Tally} → let n = length (part r start N) in
        SpectrumMade n (spectrum (level n) (word (part r start N))) cosine sine (take m scratch)
        cosine' sine' w' spent
        → SpectrumPromise r start N allowance (buffers cosine sine scratch) (buffers cosine' sine' (w' ++ drop m scratch)) (Ok spent)
    unfolding spectrum
    spectrum_done done =
        let x = block r start in
        let made = rw (fit_length fit_r, spectrum_same (level N) _ x (fit_same fit_r)) at done in
        let power = sym (is_power N fit_r.length_ok) in
        let near = limits (level N) x (fit_block fit_r) in
        let forms = published (level N) in
        carried_out refl (is_accepted passed_r _) (record {
          block = fit_block fit_r;
          cosine_words = made.cosine_words;
          sine_words = made.sine_words;
          cosine_near = λ k h. rw (front made.cosine_words k (omega (arith, h))) ((rw power at near.cosine) k h);
          sine_near = λ k h. rw (front made.sine_words k (omega (arith, h))) ((rw power at near.sine) k h);
          spends = spends made.tallied made.rest made.cleared passed_r.scratch passed_r.allowance
              (λ h. let some = some_level N fit_r.length_ok h in (forms.spectrum_p x some, forms.spectrum_s x some))
              (λ h. forms.spectrum_at_one x (level_of_one fit_r.length_ok h));
        })

  module _ (start : ℕ) (a b real imaginary scratch : List ℤ) {u : ⊤}
      (t : Tells (tests (pair_call a b start N allowance (pair_buffers real imaginary scratch))) (Ok u)) where
    passed_ab : Passes (pair_call a b start N allowance (pair_buffers real imaginary scratch))
    passed_ab = accepted_by t

    fit_a : Fit a start N
    fit_a = fit a passed_ab passed_ab.recordings.0 passed_ab.range.0

    fit_b : Fit b start N
    fit_b = fit b passed_ab passed_ab.recordings.1.0 passed_ab.range.1.0

    pub pair_ready : let n = length (part a start N) in
        Workable n (part a start N) (take m scratch) × Workable n (part b start N) (take m scratch)
        × (n ≤ length real) × (n ≤ length imaginary)
    pair_ready = let e = fit_length fit_a in (
      fit_workable fit_a scratch e is passed_ab.scratch,
      fit_workable fit_b scratch e is passed_ab.scratch,
      omega (arith, e, passed_ab.results.0),
      omega (arith, e, passed_ab.results.1.0),
    )

    pub pair_done : {real' imaginary' w' : List ℤ} {spent : Tally} → let n = length (part a start N) in
        PairMade n (pair (level n) (word (part a start N)) (word (part b start N))) real imaginary (take m scratch)
        real' imaginary' w' spent
        → PairPromise a b start N allowance (pair_buffers real imaginary scratch)
        (pair_buffers real' imaginary' (w' ++ drop m scratch)) (Ok spent)
    pair_done done =
        let x = block a start in
        let y = block b start in
        let made = rw (fit_length fit_a, pair_same (level N) _ x _ y (fit_same fit_a) (fit_same fit_b)) at done in
        let power = sym (is_power N fit_a.length_ok) in
        let near = pair_limits (level N) x y (fit_block fit_a) (fit_block fit_b) in
        let forms = published (level N) in
        carried_out refl (is_accepted passed_ab _) (record {
          block_a = fit_block fit_a;
          block_b = fit_block fit_b;
          real_words = made.real_words;
          imaginary_words = made.imaginary_words;
          real_near = λ k h. rw (front made.real_words k h) ((rw power at near.real) k h);
          imaginary_near = λ k h. rw (front made.imaginary_words k h) ((rw power at near.imaginary) k h);
          spends = spends made.tallied made.rest made.cleared passed_ab.scratch passed_ab.allowance
              (λ h. let some = some_level N fit_a.length_ok h in (forms.pair_p x y some, forms.pair_s x y some))
              (λ h. forms.pair_at_one x y (level_of_one fit_a.length_ok h));
        })

-- what the calls cite: that their tests accept them, and the part of scratch that they lend on
pub ruleset lends = (accepted_call, taken, spectrum_ready, cosine_ready, pair_ready)
