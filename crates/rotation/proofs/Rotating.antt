-- The rotation (18), (19) of n samples: what a pair more makes, and that the coefficients are all made.
-- Assumes nothing.
use mathlib.Core.Path.{◌≡◌, refl, sym, ap, ap₂, ◌∙◌}
use mathlib.Core.List.{List}
use Prim.Native.Nat.{ℕ, ◌+◌, ◌-◌, ◌*◌, ◌/◌, ◌≤◌, ◌<◌, max}
use native.Mathlib.Nat.{mul_comm}
use native.Mathlib.Omega.{arith}
use lib.IntN.{ℤ, pos, ◌*ℤ◌}
use Rattle.whole.specs.Round.{round, rest_size}
use Rattle.whole.specs.Largest.{largest}
use Rattle.whole.proofs.Largest.{both_ends, largest_none, largest_more, largest_by_pairs}
use Rattle.words.proofs.Writing.{Ends, ends_none, ends_both, ends_two}
use Rattle.circle.specs.Circle.{T}
use Rattle.ffct.specs.Transforms.{unrounded, rotated, rotation_rest}
use Rattle.lengths.proofs.ElevenLengths.{twice_half, divides}
use Rattle.ffct.proofs.Steps.{rotated_zero, rotated_some, unrounded_low, unrounded_middle, unrounded_high}
use Rattle.counts.specs.declared.tally.Tally.{Tally}
use Rattle.counts.specs.Tally.{Tallied}
use Rattle.rotation.specs.Rotation.{cosine_at, sine_at, low_at, high_at}
use Rattle.rotation.specs.Rotation.{PairPut, SinglePut, RotationReady, Rotated}

-- the size of the rest of DCT(i + 1)
abbrev rest_at : ℕ → List ℤ → ℕ → ℕ
rest_at n before i = rest_size (unrounded n (cosine_at n before) (sine_at n before) (i + 1))

-- after a pairs: the words from 1 up to a and the last a of the n are made, at three products and three sums a pair
pub record Run (n : ℕ) (before : List ℤ) (spent : Tally) (a : ℕ) (after : List ℤ) (total : Tally) : Type 0 where
  pub words : Ends (pos 0) 1 a a (n - 1) (λ i. rotated n (cosine_at n before) (sine_at n before) (1 + i)) before after
  pub tallied : Tallied (3 * a) (3 * a) (largest a (both_ends (n / 2 - 1) (rest_at n before))) spent total

pub none_made : {n a : ℕ} {before : List ℤ} {spent : Tally} → a ≡ 0 → Run n before spent a before spent
none_made {n} {before = before} e =
    rw e (record { words = ends_none; tallied = omega (arith, largest_none (both_ends (n / 2 - 1) (rest_at n before))) })

module _ {n : ℕ} {before : List ℤ} {spent : Tally} (r : RotationReady n before spent) where
  abbrev h : ℕ
  h = n / 2

  abbrev C : ℕ → ℤ
  C = cosine_at n before

  abbrev S : ℕ → ℤ
  S = sine_at n before

  pub even : 2 * (n / 2) ≡ n
  even = twice_half n r.length_ok r.some

  w : 2 * (n / 2) * (1024 / n) ≡ 1024
  w = rw even (divides n r.length_ok)

  -- what is rounded
  low : (k : ℕ) → k < h → low_at (1024 / n * k) n before k ≡ unrounded n C S k
  low k o = sym (rw (even, mul_comm k (1024 / n)) at (unrounded_low h (1024 / n) C S w k o))

  middle : T 512 *ℤ C h ≡ unrounded n C S h
  middle = sym (rw even at (unrounded_middle h (1024 / n) C S w h refl))

  high : (k : ℕ) → 1 ≤ k → k < h → high_at (1024 / n * k) n before k ≡ unrounded n C S (n - k)
  high k l o =
      let back : n - (n - k) ≡ k = omega arith in
      sym (rw (even, back, mul_comm k (1024 / n)) at (unrounded_high h (1024 / n) C S w (n - k) (omega arith)))

  value : (k : ℕ) {v : ℤ} → 0 < k → v ≡ unrounded n C S k → round v ≡ rotated n C S k
  value k l e = ap round e ∙ sym (rotated_some n C S k l)

  module _ {a : ℕ} {after : List ℤ} {total : Tally} (run : Run n before spent a after total) where
    cosine_is : (k : ℕ) → cosine_at n after k ≡ C k
    cosine_is k = run.words.high (n + k) (omega (arith, r.some))

    sine_is : (k : ℕ) → sine_at n after k ≡ S k
    sine_is k = run.words.high (n + n / 2 + 1 + k) (omega (arith, r.some))

    -- one pair more
    pub pair_more : {a' j k : ℕ} {after' : List ℤ} {total' : Tally} → (a + 1 ≡ k) × (a' ≡ k) × (k < h) → j ≡ 1024 / n * k →
        PairPut j n k after after' total total' → Run n before spent a' after' total'
    pair_more {a'} {j} {k} o e put = record {
      words = ends_both run.words (n - k - 1) (omega (arith, even)) put.both.len put.both.others
          (put.both.first ∙ rw up (value k (omega arith) low_is)) (put.both.second ∙ rw down (value (n - k) (omega arith) high_is));
      tallied = record {
        products = omega (arith, run.tallied, put.tallied);
        sums = omega (arith, run.tallied, put.tallied);
        rest = omega (arith, run.tallied.rest, put.tallied.rest, rests, largest_more a a' rest_of (omega arith));
      };
    }
      where
        up : 1 + a ≡ k
        up = omega arith

        down : 1 + (n - k - 1) ≡ n - k
        down = omega arith

        low_is : low_at j n after k ≡ unrounded n C S k
        low_is = rw (e, cosine_is k, sine_is k) (low k o.2)

        high_is : high_at j n after k ≡ unrounded n C S (n - k)
        high_is = rw (e, cosine_is k, sine_is k) (high k (omega arith) o.2)

        rest_of : ℕ → ℕ
        rest_of = both_ends (n / 2 - 1) (rest_at n before)

        rests : max (rest_size (low_at j n after k)) (rest_size (high_at j n after k)) ≡ rest_of a
        rests = ap₂ max
            (ap rest_size (low_is ∙ ap (unrounded n C S) (sym o.0)))
            (ap rest_size (high_is ∙ ap (unrounded n C S) (omega (arith, even))))

    -- all are made with the coefficients that belong to no pair
    pub all_made : {after' : List ℤ} {total' : Tally} → a + 1 ≡ h → SinglePut n after after' total total' →
        Rotated n before after' spent total'
    unfolding rotation_rest
    all_made o put = record {
      words = ends_two (omega (arith, r.some, even)) (λ e. even) run.words put.both
          (cosine_is 0 ∙ sym (rotated_zero n C S 0 refl)) (rw (cosine_is h) (value h (omega arith) middle));
      tallied = record {
        products = omega (arith, run.tallied, put.tallied);
        sums = omega (arith, run.tallied, put.tallied);
        rest = omega (arith, run.tallied.rest, put.tallied.rest, middle_rest, by_pairs);
      };
    }
      where
        middle_rest : rest_size (T 512 *ℤ cosine_at n after (n / 2)) ≡ rest_at n before a
        middle_rest = ap rest_size (rw (cosine_is h) (middle ∙ ap (unrounded n C S) (sym o)))

        by_pairs : max (largest a (both_ends (n / 2 - 1) (rest_at n before))) (rest_at n before a) ≡ largest (n - 1) (rest_at n before)
        by_pairs =
            let half : n / 2 - 1 ≡ a = omega arith in
            rw half (largest_by_pairs a (rest_at n before) ∙ ap (λ m. largest m (rest_at n before)) (omega (arith, even)))
