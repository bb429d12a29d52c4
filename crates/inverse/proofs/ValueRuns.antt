-- The run of `two_values`: what each call asks of the sums that the calls before have made, and what it comes to.
-- Assumes nothing.
use mathlib.Core.Path.{◌≡◌, sym, ap, ap₂, ◌∙◌}
use mathlib.Core.List.{List}
use Prim.Native.Nat.{ℕ, ◌+◌, ◌-◌, ◌*◌, ◌/◌, ◌^◌, ◌≤◌, ◌<◌}
use native.Mathlib.Nat.{mul-le-mul, le_refl}
use native.Mathlib.Omega.{arith}
use lib.IntN.{ℤ, pos, nat_abs, ◌+ℤ◌, ◌-ℤ◌, ◌*ℤ◌}
use Rattle.whole.specs.Round.{nearest}
use Rattle.whole.proofs.Difference.{int}
use Rattle.words.specs.Words.{word}
use Rattle.lengths.proofs.ElevenLengths.{length_le, twice_half, divides}
use Rattle.inverse.specs.declared.sum.Sum.{Sum}
use Rattle.inverse.specs.Inverse.{inverse_dct}
use Rattle.inverse.specs.Steps.{held, Small, Joined, SumReady, SumMade, value_of, ValueReady, TwoReady}
use Rattle.inverse.proofs.Sizes.{values_fit}
use Rattle.inverse.proofs.Halves.{near_sum, far_sum}

module _ {N n : ℕ} {cs : List ℤ} (r : TwoReady N n cs) where
  abbrev turn : ℕ
  turn = (2 * n + 1) * (1024 / N)

  even : 2 * (N / 2) ≡ N
  even = twice_half N r.stored.length_ok (omega (arith, r.front))

  turn_small : turn < 2048
  turn_small =
      let l : 2 * n + 2 ≤ N = omega (arith, r.front) in
      omega (arith, mul-le-mul l (le_refl (1024 / N)), divides N r.stored.length_ok)

  small : (k : ℕ) → k < N → nat_abs (word cs k) ≤ 2 ^ 30
  small k h = omega (arith, r.stored.range k h, length_le N r.stored.length_ok)

  pub sums_ready : {first : ℕ} → first ≤ 1 → SumReady (N / 2) first turn cs
  sums_ready h = record {
    some = omega (arith, length_le N r.stored.length_ok);
    even_or_odd = h;
    half_turn = turn_small;
    stored = omega (arith, even, r.stored.enough);
    small = λ k l. small k (omega (arith, even));
  }

  whole : 2 * (N / 2) * (1024 / N) ≡ 1024
  whole = rw even (divides N r.stored.length_ok)

  some : 0 < N / 2
  some = omega (arith, r.front)

  -- ---- both sums are made
  module _ {evens odds : Sum} (e : SumMade (N / 2) 0 turn cs evens) (o : SumMade (N / 2) 1 turn cs odds) where
    pub sums_small : Small 512 evens × Small 512 odds
    sums_small =
        let l = length_le N r.stored.length_ok in (
          record { high_ok = omega (arith, e.size.high_ok, l); low_ok = omega (arith, e.size.low_ok, l) },
          record { high_ok = omega (arith, o.size.high_ok, l); low_ok = omega (arith, o.size.low_ok, l) },
        )

    -- ---- and added, or subtracted
    pub near_value : {sum : Sum} → Joined ◌+ℤ◌ evens odds sum → value_of (held sum) (word cs 0) N ≡ inverse_dct N (word cs) n
    unfolding inverse_dct int
    near_value j = ap (λ v. nearest v (N * 2 ^ 30))
        (ap (λ v. pos 2 *ℤ v -ℤ word cs 0 *ℤ pos (2 ^ 30)) (j.is ∙ ap₂ ◌+ℤ◌ e.is o.is)
        ∙ sym (rw even at (near_sum (N / 2) (1024 / N) cs some whole n)))

    pub far_value : {sum : Sum} → Joined ◌-ℤ◌ evens odds sum → value_of (held sum) (word cs 0) N ≡ inverse_dct N (word cs) (N - 1 - n)
    unfolding inverse_dct int
    far_value j = ap (λ v. nearest v (N * 2 ^ 30))
        (ap (λ v. pos 2 *ℤ v -ℤ word cs 0 *ℤ pos (2 ^ 30)) (j.is ∙ ap₂ ◌-ℤ◌ e.is o.is)
        ∙ sym (rw even at (far_sum (N / 2) (1024 / N) cs some whole n (N - 1 - n) (omega (arith, even, r.front)))))

  -- ---- a value is ready where it is one of the definition; c is coefficient 0
  pub value_ready : {sum : Sum} {i : ℕ} {c : ℤ} → Small 1024 sum → i < N → c ≡ word cs 0
      → value_of (held sum) (word cs 0) N ≡ inverse_dct N (word cs) i → ValueReady sum c N
  value_ready {i = i} s h first e = record {
    length_ok = r.stored.length_ok;
    two = omega (arith, r.front);
    size = s;
    c_ok = rw first (small 0 (omega (arith, r.front)));
    fits = rw (first, e) (values_fit N (word cs) r.stored.length_ok r.stored.range i h);
  }
