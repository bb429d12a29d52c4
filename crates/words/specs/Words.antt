-- Slices as lists of words: the samples that stand in one, and what a loop or a call has written to it.
use Rattle.std.specs.Prelude.{List, ◌≡◌, ℕ, ◌+◌, ◌≤◌, ◌<◌, ℤ, pos, neg_ℤ, length, get_or}

-- the samples of a block: x n, for n below its length N; x 0 is the sample at the start
abbrev pub Samples : Type 0
Samples = ℕ → ℤ

-- the samples that stand at the front of a list of words: word k at k, and 0 past the end
abbrev pub word : List ℤ → ℕ → ℤ
word words k = get_or words k (pos 0)

-- ---- document 02, (ix): "Some crews swap the leads, so every sample changes sign."
abbrev pub negated : Samples → Samples
negated x n = neg_ℤ (x n)

-- the same of a list of words: as many, each with its sign changed
pub record Negated (words words' : List ℤ) : Type 0 where
  pub len : length words' ≡ length words
  pub at : (k : ℕ) → word words' k ≡ neg_ℤ (word words k)

-- the same of their first m words alone
abbrev pub NegatedFront : ℕ → (words words' : List ℤ) → Type 0
NegatedFront m words words' = (k : ℕ) → k < m → word words' k ≡ neg_ℤ (word words k)

-- the m elements from place b on now hold f 0, f 1, .. f (m - 1); all others are as before, and the length stays. (d is what a place past
-- the end reads as.)
pub record WrittenOf {A : Type 0} (d : A) (b m : ℕ) (f : ℕ → A) (before after : List A) : Type 0 where
  pub new : (k : ℕ) → k < m → get_or after (b + k) d ≡ f k
  pub low : (k : ℕ) → k < b → get_or after k d ≡ get_or before k d
  pub high : (k : ℕ) → b + m ≤ k → get_or after k d ≡ get_or before k d
  pub len : length after ≡ length before

-- the same of words
abbrev pub Written : ℕ → ℕ → (ℕ → ℤ) → List ℤ → List ℤ → Type 0
Written b m f before after = WrittenOf (pos 0) b m f before after

-- u put at place i, and v at place j
pub record TwoPut (i j : ℕ) (u v : ℤ) (before after : List ℤ) : Type 0 where
  pub first : word after i ≡ u
  pub second : word after j ≡ v
  pub others : (k : ℕ) → (k ≡ i → ⊥) → (k ≡ j → ⊥) → word after k ≡ word before k
  pub len : length after ≡ length before
