-- Document 02, (viii): "One owner's answers, refusals and sums depend on the month's length and on that owner's own calls only." As
-- statements about values, of one call and of runs: what is the same for the owner is the same in answer, buffers and account, whatever
-- the other party's calls are. `OneCall p` and `Isolated p` are proved of each party p, 1 and 2 (proofs/Isolation).
use Rattle.std.specs.Prelude.{cond, List, [], ◌∷◌, ◌≡◌, ℕ, eqb, ℤ}
use Rattle.months.specs.Months.{length_of, account}
use Rattle.months.specs.Runs.{PartyCall, Seen, Keeps, Made, Run}

-- two months of one length that agree in the account of the party p
pub record Same (p : ℕ) (month other : List ℤ) : Type 0 where
  pub lengths : length_of month ≡ length_of other
  pub accounts : account p month ≡ account p other

-- ---- of one call
pub record OneCall (p : ℕ) : Type 0 where
  -- the party's own call, on two such months: it sees the same, and they agree after it
  pub own : (call : PartyCall) {month other month' other' : List ℤ} {seen seen' : Seen} → Same p month other
      → Keeps p month call month' seen → Keeps p other call other' seen' → (seen ≡ seen') × Same p month' other'
  -- a call by another party, accepted or refused: the account stays, and so does the length
  pub others : (q : ℕ) {call : PartyCall} {month month' : List ℤ} {seen : Seen} → (q ≡ p → ⊥) → Keeps q month call month' seen
      → Same p month' month

-- ---- of runs. A party's own calls, and what it sees of them
unfoldable pub calls_of : ℕ → List Made → List PartyCall
calls_of p [] = []
calls_of p (made ∷ later) = cond (eqb made.party p) (made.call ∷ calls_of p later) (calls_of p later)

unfoldable pub seen_by : ℕ → List Made → List Seen
seen_by p [] = []
seen_by p (made ∷ later) = cond (eqb made.party p) (made.seen ∷ seen_by p later) (seen_by p later)

-- two runs on months begun for one length, by any parties in any order: where the calls of p are the same, p sees the same, and its
-- accounts are the same in the end
abbrev pub Isolated : ℕ → Type 0
Isolated p =
    (N : ℕ) (made made' : List Made) (month month' : List ℤ) → Run N made month → Run N made' month' → calls_of p made ≡ calls_of p made'
    → (seen_by p made ≡ seen_by p made') × (account p month ≡ account p month')
