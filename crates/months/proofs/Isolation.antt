-- Isolation: each call of a party is determined by the month's length and by that party's account; and what is so of one call is so of
-- runs.
-- Assumes nothing.
use mathlib.Core.Path.{◌≡◌, refl, sym, ap, ◌∙◌}
use mathlib.Core.Bool.{Bool, true, false, cond}
use mathlib.Core.List.{List, [], ◌∷◌}
use mathlib.Core.Logic.{⊎_elim}
use Prim.Native.Nat.{ℕ, zero, suc, ◌+◌, ◌-◌, ◌/◌, ◌≤◌, ◌<◌}
use native.Mathlib.Omega.{arith}
use lib.Dec.{eqb}
use lib.IntN.{ℤ, pos}
use lib.ListN.{length, length-take}
use lib.Seq.{ext_get_or}
use borrow.Author.Tests.{eqb-true, eqb-false}
use Rattle.std.specs.Prelude.{Result, Ok, Err}
use Rattle.whole.proofs.Cases.{le_or_lt}
use Rattle.words.specs.Words.{Samples, word}
use Rattle.counts.specs.declared.tally.Tally.{Tally}
use Rattle.refusals.specs.declared.refusal.Refusal.{Refusal}
use Rattle.refusals.specs.Refusals.{accepted}
use Rattle.refusals.specs.Answers.{answered}
use Rattle.refusals.proofs.Promises.{refuses, same_refusal, accepted_or_not}
use Rattle.spectra.specs.Promises.{Buffers}
use Rattle.spectra.proofs.Determined.{same_answer, none_spent, spent_alike, left_alike}
use Rattle.months.specs.declared.account.Sums.{Sums}
use Rattle.months.specs.Accounts.{account_words, cosine_sum, sine_sum, BlockAdded}
use Rattle.months.specs.Months.{unknown_party, account, new_month, add_verdict}
use Rattle.months.specs.Answers.{blocks_of, sums_of}
use Rattle.months.specs.Promises.{Given, call_of, AddPromise, NumberPromise, SumsPromise}
use Rattle.months.specs.Runs.{PartyCall, Seen, number_read, sums_read, length_read}
use Rattle.months.specs.Runs.{Keeps, adds, tells_number, tells_sums, tells_length, Made, Calls, none, more}
use Rattle.months.specs.Isolation.{Same, OneCall, calls_of, seen_by, Isolated}
use Rattle.months.proofs.Steps.{length_stays, account_stays}

-- ---- the words of an account after a block are determined by those before it
block_alike : {N : ℕ} {c s : Samples} {before one other : List ℤ} → length before ≤ account_words → BlockAdded N c s before one
    → BlockAdded N c s before other → one ≡ other
block_alike {N} {before = before} {one = one} {other = other} short a b =
    ext_get_or (pos 0) one other (a.len ∙ sym b.len) (λ k l. at k (omega (arith, l, a.len)))
  where
    cosine : (k : ℕ) → k < 513 → cosine_sum one k ≡ cosine_sum other k
    cosine k h = ⊎_elim
        (λ l. a.cosine k l ∙ sym (b.cosine k l))
        (λ l. (a.beyond k l h).0 ∙ sym (b.beyond k l h).0)
        (le_or_lt k (N / 2))

    sine : (k : ℕ) → k < 513 → sine_sum one k ≡ sine_sum other k
    sine k h = ⊎_elim
        (λ l. a.sine k l ∙ sym (b.sine k l))
        (λ l. (a.beyond k l h).1 ∙ sym (b.beyond k l h).1)
        (le_or_lt k (N / 2))

    sum : (k : ℕ) → k < 1026 → word one (1 + k) ≡ word other (1 + k)
    sum k h = ⊎_elim
        (λ l. let place : 514 + (k - 513) ≡ 1 + k = omega arith in rw place at (sine (k - 513) (omega arith)))
        (cosine k)
        (le_or_lt 513 k)

    at : (k : ℕ) → k < account_words → word one k ≡ word other k
    at zero h = a.number ∙ sym b.number
    at (suc k) h = let place : 1 + k ≡ suc k = omega arith in rw place at (sum k (omega arith))

account_short : (p : ℕ) (month : List ℤ) → length (account p month) ≤ account_words
unfolding account
account_short p month = simp length-take (omega arith)

-- ---- adding, on two months of one length that agree in the party's account
module _ {p : ℕ} {g : Given} {m m' t t' : List ℤ} {l k : Buffers} {a b : Result Tally Refusal} (same : Same p m t)
    (one : AddPromise p g m m' l a) (other : AddPromise p g t t' k b) where
  verdicts : answered a ≡ answered b
  verdicts =
      let e : add_verdict p m (call_of g) ≡ add_verdict p t (call_of g) = rw (same.lengths, same.accounts) refl in
      one.verdict ∙ e ∙ sym other.verdict

  both_accepted : answered a ≡ accepted → (a ≡ b) × (l ≡ k) × (account p m' ≡ account p t')
  both_accepted e =
      let done = (one.done e).own in
      let done' = (other.done (sym verdicts ∙ e)).own in (
        same_answer a b verdicts (spent_alike done.spectrum done'.spectrum),
        left_alike done.spectrum done'.spectrum,
        block_alike (account_short p t) (rw same.accounts at done.words) done'.words,
      )

  both_refused : (answered a ≡ accepted → ⊥) → (a ≡ b) × (l ≡ k) × (account p m' ≡ account p t')
  both_refused e =
      let e' : answered b ≡ accepted → ⊥ = λ f. e (verdicts ∙ f) in
      let (month-stays, buffers-stay) = one.unchanged e in
      let (month-stays', buffers-stay') = other.unchanged e' in (
        same_answer a b verdicts (none_spent a e ∙ sym (none_spent b e')),
        buffers-stay ∙ sym buffers-stay',
        ap (account p) month-stays ∙ same.accounts ∙ sym (ap (account p) month-stays'),
      )

  adds_alike : (a ≡ b) × (l ≡ k) × (account p m' ≡ account p t')
  adds_alike = ⊎_elim both_accepted both_refused (accepted_or_not (answered a))

-- ---- reading: an answer is determined by its verdict and by what it tells
same_told : {A : Type 0} (told : Result A Refusal → A) → ((x : A) → told (Ok x) ≡ x) → (a b : Result A Refusal) → answered a ≡ answered b
    → (answered a ≡ accepted → told a ≡ told b) → a ≡ b
same_told told is (Err r) (Err s) e f = ap Err (same_refusal r s e)
same_told told is (Err r) (Ok y) e f = absurd (refuses r e)
same_told told is (Ok x) (Err s) e f = absurd (refuses s (sym e))
same_told told is (Ok x) (Ok y) e f = ap Ok (sym (is x) ∙ f refl ∙ is y)

module _ {p : ℕ} {m t : List ℤ} (same : Same p m t) where
  numbers_alike : (a b : Result ℤ Refusal) → NumberPromise p m a → NumberPromise p t b → a ≡ b
  numbers_alike a b one other =
      let verdicts = one.verdict ∙ sym other.verdict in
      same_told blocks_of (λ n. refl) a b verdicts (λ e. one.number e ∙ rw same.accounts (sym (other.number (sym verdicts ∙ e))))

  sums_alike : (k : ℕ) (a b : Result Sums Refusal) → SumsPromise p m k a → SumsPromise p t k b → a ≡ b
  sums_alike k a b one other =
      let verdicts : answered a ≡ answered b = one.verdict ∙ rw same.lengths (sym other.verdict) in
      same_told sums_of (λ sums. refl) a b verdicts (λ e. one.sums e ∙ rw same.accounts (sym (other.sums (sym verdicts ∙ e))))

-- ---- of one call
module _ {p : ℕ} where
  own : (call : PartyCall) {m t m' t' : List ℤ} {seen seen' : Seen} → Same p m t → Keeps p m call m' seen → Keeps p t call t' seen'
      → (seen ≡ seen') × Same p m' t'
  own _ same (adds g m' l a one) (adds h t' k b other) =
      let (answers, buffers, accounts) = adds_alike same one other in
      let lengths = length_stays (adds g m' l a one) ∙ same.lengths ∙ sym (length_stays (adds h t' k b other)) in
      (cc, record { lengths = lengths; accounts = accounts })
  own _ same (tells_number a one) (tells_number b other) = (ap number_read (numbers_alike same a b one other), same)
  own _ same (tells_sums k a one) (tells_sums j b other) = (ap sums_read (sums_alike same k a b one other), same)
  own _ same tells_length tells_length = (ap length_read same.lengths, same)

pub one_call : (p : ℕ) → unknown_party p ≡ false → OneCall p
one_call p known = record {
  own = own;
  others = λ q ne keeps. record { lengths = length_stays keeps; accounts = account_stays p known (λ e. ne (sym e)) keeps };
}

-- ---- of runs
module _ (p : ℕ) (known : unknown_party p ≡ false) where
  itself : (m : List ℤ) → Same p m m
  itself m = record { lengths = refl; accounts = refl }

  turned : {m t : List ℤ} → Same p m t → Same p t m
  turned e = record { lengths = sym e.lengths; accounts = sym e.accounts }

  joined : {m t u : List ℤ} → Same p m t → Same p t u → Same p m u
  joined e f = record { lengths = e.lengths ∙ f.lengths; accounts = e.accounts ∙ f.accounts }

  -- a run as the party sees it: between its own calls its account stays
  data Own : List ℤ → List PartyCall → List Seen → List ℤ → Type 0 where
    stays : {m t : List ℤ} → Same p m t → Own m [] [] t
    calls : {m t u v : List ℤ} {call : PartyCall} {later : List PartyCall} {seen : Seen} {next : List Seen}
        → Same p m t → Keeps p t call u seen → Own u later next v → Own m (call ∷ later) (seen ∷ next) v

  before : {m t u : List ℤ} {cs : List PartyCall} {ss : List Seen} → Same p m t → Own t cs ss u → Own m cs ss u
  before e (stays f) = stays (joined e f)
  before e (calls f keeps later) = calls (joined e f) keeps later

  -- one call more at the front, by whether it is the party's own
  one_more : {m t u : List ℤ} (made : Made) (mine : Bool) {cs : List PartyCall} {ss : List Seen} → eqb made.party p ≡ mine
      → Keeps made.party m made.call t made.seen → Own t cs ss u
      → Own m (cond mine (made.call ∷ cs) cs) (cond mine (made.seen ∷ ss) ss) u
  one_more made true e keeps later = calls (itself _) (rw (eqb-true made.party p e) at keeps) later
  one_more made false e keeps later = before (turned ((one_call p known).others made.party (eqb-false _ _ e) keeps)) later

  own_of : {m t : List ℤ} {made : List Made} → Calls m made t → Own m (calls_of p made) (seen_by p made) t
  unfolding calls_of seen_by
  own_of none = stays (itself _)
  own_of (more made keeps later) = one_more made (eqb made.party p) refl keeps (own_of later)

  -- the same calls from the same account
  alike : {m m' t t' : List ℤ} {cs : List PartyCall} {ss ss' : List Seen} → Own m cs ss m' → Own t cs ss' t' → Same p m t
      → (ss ≡ ss') × Same p m' t'
  alike (stays e) (stays f) h = (refl, joined (turned e) (joined h f))
  alike (calls e keeps later) (calls f keeps' later') h =
      let (seen, same) = own _ (joined (turned e) (joined h f)) keeps keeps' in
      let (next, end) = alike later later' same in
      (cc, end)

  pub isolated : Isolated p
  isolated N made made' month month' run run' e =
      let start : Same p run.start run'.start = rw (run.begun.words, run'.begun.words) (itself (new_month N)) in
      let theirs : Own run'.start (calls_of p made) (seen_by p made') month' = rw e (own_of run'.calls) in
      let (seen, end) = alike (own_of run.calls) theirs start in
      (seen, end.accounts)
