-- A run of a cosine- or sine-DFT of n samples, n at least 4: what its calls ask after each other, and what they come to. One record,
-- `Kind`, has what differs between the two.
--     even-ready            the even samples may be transformed
--     fold-ready            then the block may be folded
--     odd-ready             then the DCT may be taken
--     join-ready            then both may be joined
--     dft-ends              what the join leaves is the transform
--     lent-..               the same where the DCT was taken of a tail that was lent
-- Assumes nothing.
use mathlib.Core.Path.{◌≡◌, sym, ap, ap₂, ◌∙◌, subst}
use mathlib.Core.List.{List}
use Prim.Native.Nat.{ℕ, suc, ◌+◌, ◌-◌, ◌*◌, ◌/◌, ◌≤◌, ◌<◌, max}
use native.Mathlib.Nat.{le_refl, mul-le-mul_left, mul-le-mul_right}
use native.Mathlib.Omega.{arith}
use lib.IntN.{ℤ, pos, nat_abs, ◌+ℤ◌, ◌-ℤ◌}
use lib.ListN.{length}
use Rattle.whole.proofs.Size.{within_size, size_add, within_sub, size_within}
use Rattle.words.specs.Words.{Samples, word}
use Rattle.words.proofs.Parts.{part, back, part_length, part_at}
use Rattle.lengths.specs.Block.{level, largest_sum}
use Rattle.ffct.specs.Transforms.{Transform, evens, folded_sums, folded_differences, alternate, cosine_dft, sine_dft, dct}
use Rattle.lengths.proofs.Lengths.{len}
use Rattle.lengths.proofs.ElevenLengths.{as_len, Quarter, quarter}
use Rattle.ffct.proofs.Near.{alternate_within, apart_le}
use Rattle.ffct.proofs.Sizes.{Inner, dft_size, dct_within}
use Rattle.ffct.proofs.Blocks.{Same, dft_same, dct_same, sine_first, sine_last, cosine_beyond_same, sine_beyond_same, dct_beyond_same}
use Rattle.ffct.proofs.Steps.{cosine_step, cosine_products, cosine_sums, cosine_rest, sine_step, sine_products, sine_sums, sine_rest}
use Rattle.counts.specs.declared.tally.Tally.{Tally}
use Rattle.counts.specs.Tally.{TalliedAs}
use Rattle.transforms.specs.Pairs.{paired}
use Rattle.transforms.specs.Steps.{Ready, Gives, DftReady, DftDone, DctReady, DctDone, FoldReady, Folded}
use Rattle.transforms.specs.Steps.{even_at, odd_at, cosine_join, sine_join, JoinReady, Joined}
use Rattle.transforms.proofs.Pairs.{paired_same, paired_evens}
use Rattle.transforms.proofs.Levels.{inner, sample_le, lent}

-- a quarter of n times a sum of two, from n times each
quarter_le : (n u v z : ℕ) → n * u ≤ largest_sum → n * v ≤ largest_sum → z ≤ u + v → n / 4 * z ≤ largest_sum
quarter_le n u v z hu hv hz =
    let k : 2 * (n / 4) ≤ n = omega arith in
    omega (arith, mul-le-mul_left (n / 4) hz, mul-le-mul_right u k, mul-le-mul_right v k)

-- what differs: the transform, its fold, its join, and the sums of the join of n coefficients; 4 m is n
pub record Kind (transform : ℕ → Samples → Transform) (fold : ℕ → Samples → Samples) (join : ℕ → (ℕ → ℤ) → (ℕ → ℤ) → ℕ → ℤ)
    (joins : ℕ → ℕ) : Type 0 where
  same : (L : ℕ) (x y : Samples) → Same L x y → transform L x ≡ transform L y
  small : (L X : ℕ) (x : Samples) → Inner L x X → (k : ℕ) → 2 * k ≤ len L → nat_abs ((transform L x).at k) ≤ largest_sum + 128
  fold_same : (n : ℕ) (x y : Samples) → ((i : ℕ) → i < n → x i ≡ y i) → (i : ℕ) → i < n / 4 → fold n x i ≡ fold n y i
  fold_le : (n : ℕ) (x : Samples) (i : ℕ) → nat_abs (fold n x i) ≤ nat_abs (x (2 * i + 1)) + nat_abs (x (n - 2 * i - 1))
  join_same : (n : ℕ) → 4 * (n / 4) ≡ n → (E E' D D' : ℕ → ℤ) → ((j : ℕ) → j ≤ n / 4 → E j ≡ E' j) → ((j : ℕ) → j < n / 4 → D j ≡ D' j) →
      (k : ℕ) → k < n / 2 + 1 → join n E D k ≡ join n E' D' k
  step : (L : ℕ) (x : Samples) (k : ℕ) →
      (transform (suc (suc L)) x).at k ≡ join (4 * len L) (transform (suc L) (evens x)).at (dct L (fold (4 * len L) x)).at k
  products : (L : ℕ) (x : Samples) →
      (transform (suc (suc L)) x).products ≡ (transform (suc L) (evens x)).products + (dct L (fold (4 * len L) x)).products
  sums : (L : ℕ) (x : Samples) →
      (transform (suc (suc L)) x).sums ≡ (transform (suc L) (evens x)).sums + (dct L (fold (4 * len L) x)).sums +
      (len L + joins (4 * len L))
  rest : (L : ℕ) (x : Samples) →
      (transform (suc (suc L)) x).largest_rest ≡ max (transform (suc L) (evens x)).largest_rest (dct L (fold (4 * len L) x)).largest_rest

halved : (m : ℕ) → 4 * m / 2 ≡ 2 * m
halved m = omega arith

quartered : (m : ℕ) → 4 * m / 4 ≡ m
quartered m = omega arith

pub cosine_kind : Kind cosine_dft folded_sums cosine_join (λ n. n / 2)
cosine_kind = record {
  same = λ L x y e. (dft_same L x y e).0;
  small = λ L X x i k h. within_size (dft_size i k h).0;
  fold_same = λ n x y e i h. ap₂ ◌+ℤ◌ (e (2 * i + 1) (omega arith)) (e (n - 2 * i - 1) (omega arith));
  fold_le = λ n x i. size_add (x (2 * i + 1)) (x (n - 2 * i - 1));
  join_same = λ n q E E' D D' e d k h. ap₂ ◌+ℤ◌
      (cosine_beyond_same (n / 2) E E' k (omega arith) (λ j l. e j (omega arith)))
      (dct_beyond_same (n / 4) D D' k (omega arith) d);
  step = λ L x k. rw (halved (len L), quartered (len L)) (cosine_step L x k);
  products = cosine_products;
  sums = λ L x. rw (halved (len L)) (cosine_sums L x);
  rest = cosine_rest;
}

pub sine_kind : Kind sine_dft folded_differences sine_join (λ n. n / 2 - 2)
sine_kind = record {
  same = λ L x y e. (dft_same L x y e).1;
  small = λ L X x i k h. within_size (dft_size i k h).1;
  fold_same = λ n x y e i h. ap₂ (λ u v. alternate i (u -ℤ v)) (e (2 * i + 1) (omega arith)) (e (n - 2 * i - 1) (omega arith));
  fold_le = λ n x i. within_size (alternate_within i
      (within_sub (size_within (x (2 * i + 1)) (le_refl _)) (size_within (x (n - 2 * i - 1)) (le_refl _))));
  join_same = λ n q E E' D D' e d k h. ap₂ ◌+ℤ◌
      (sine_beyond_same (n / 2) E E' k (omega arith) (λ j l. e j (omega arith)))
      (dct_beyond_same (n / 4) D D' _ (apart_le (n / 4) k (omega arith)) d);
  step = λ L x k. rw (halved (len L), quartered (len L)) (sine_step L x k);
  products = sine_products;
  sums = λ L x. rw (halved (len L)) (sine_sums L x);
  rest = sine_rest;
}

-- where the DCT's part begins
abbrev pub tail : ℕ → ℕ → ℕ
tail at n = at + n / 2 + 1

module _ {transform : ℕ → Samples → Transform} {fold : ℕ → Samples → Samples} {join : ℕ → (ℕ → ℤ) → (ℕ → ℤ) → ℕ → ℤ} {joins : ℕ → ℕ}
    (K : Kind transform fold join joins) {n s at : ℕ} {w₀ : List ℤ} {spent : Tally} (start : DftReady transform n s at w₀ spent)
    (many : 4 ≤ n) where
  -- the block, and the levels of its parts
  abbrev x : Samples
  x = paired n s (word w₀)

  Q : Quarter n
  Q = quarter n start.ready.length_ok many

  abbrev l : ℕ
  l = level (n / 4)

  pub quarters : 4 * (n / 4) ≡ n
  quarters = omega (arith, Q.four)

  quarter_is : n / 4 ≡ len l
  quarter_is = omega (arith, Q.four)

  abbrev b : ℕ
  b = tail at n

  -- the two parts of the definition
  abbrev even : Transform
  even = transform (suc l) (evens x)

  abbrev odd : Transform
  odd = dct l (fold n x)

  whole_counts : ((transform (level n) x).products ≡ even.products + odd.products)
      × ((transform (level n) x).sums ≡ even.sums + odd.sums + (n / 4 + joins n))
      × ((transform (level n) x).largest_rest ≡ max even.largest_rest odd.largest_rest)
  whole_counts = rw Q.level_is (
    rw (sym Q.four) at (K.products l x),
    rw (sym Q.four, sym quarter_is) at (K.sums l x),
    rw (sym Q.four) at (K.rest l x),
  )

  even_is : transform (level (n / 2)) (paired (n / 2) (2 * s) (word w₀)) ≡ even
  even_is = rw Q.half_level (K.same (suc l) _ _ (λ i h. paired_evens n s (word w₀) quarters i (omega (arith, quarter_is))))

  pub even_ready : DftReady transform (n / 2) (2 * s) at w₀ spent
  even_ready = record {
    ready = record {
      length_ok = Q.half_ok;
      samples = λ i h. rw (paired_evens n s (word w₀) quarters i h)
          (omega (arith, start.ready.samples (2 * i) (omega arith), mul-le-mul_right (nat_abs (x (2 * i))) half_le));
    };
    stride = omega (arith, start.stride);
    behind = omega (arith, start.behind, ap (λ m. s * m) half_is);
    fits = omega (arith, start.fits, Q.four);
    room = rw even_is (omega (arith, start.room, whole_counts));
  }
    where
      half_le : n / 2 ≤ n
      half_le = omega arith

      half_is : 2 * (n / 2) ≡ n
      half_is = omega (arith, Q.four)

  -- twice the stride lies below the result, and so fits a word
  pub stride_below : 2 * s ≤ at
  stride_below = omega (arith, start.behind, mul-le-mul_left {m = 2} {n = n} s (omega arith))

  -- ---- after the even samples are transformed
  module _ {w₁ : List ℤ} {t₁ : Tally} (evened : DftDone transform (n / 2) (2 * s) at w₀ w₁ spent t₁) where
    even_tallied : TalliedAs even spent t₁
    even_tallied = subst (λ t. TalliedAs t spent t₁) even_is evened.tallied

    -- the block is as it was
    block₁ : (i : ℕ) → i < n → paired n s (word w₁) i ≡ x i
    block₁ = paired_same n s (word w₁) (word w₀) start.stride (λ j h. evened.front j (omega (arith, start.behind)))

    pub fold_ready : FoldReady n s b w₁ t₁
    fold_ready = record {
      quarters = quarters;
      stride = start.stride;
      behind = omega (arith, start.behind);
      fits = omega (arith, start.fits, evened.len, Q.four);
      samples = λ i h. rw (block₁ i h) (sample_le start.ready i h);
      room = omega (arith, start.room, whole_counts, even_tallied);
    }

    -- ---- after the block is folded
    module _ {w₂ : List ℤ} {t₂ : Tally} (folded : Folded fold n s b w₁ w₂ t₁ t₂) where
      pub tail_starts : b ≤ length w₂
      tail_starts = omega (arith, fold_ready.fits, folded.words.len)

      -- what the DCT finds
      odd_block : (i : ℕ) → i < n / 4 → word (part b w₂) i ≡ fold n x i
      odd_block i h = part_at b w₂ i ∙ folded.words.new i h ∙ K.fold_same n (paired n s (word w₁)) x block₁ i h

      odd_is : dct l (word (part b w₂)) ≡ odd
      odd_is = dct_same l _ _ (λ i h. odd_block i (omega (arith, quarter_is)))

      odd_block_ready : Ready (n / 4) (word (part b w₂))
      odd_block_ready = record {
        length_ok = Q.ok;
        samples = λ i h. rw (odd_block i h) (quarter_le n _ _ _
            (start.ready.samples (2 * i + 1) (omega arith)) (start.ready.samples (n - 2 * i - 1) (omega arith)) (K.fold_le n x i));
      }

      pub odd_ready : DctReady (n / 4) (part b w₂) t₂
      odd_ready = record {
        ready = odd_block_ready;
        fits = omega (arith, part_length b w₂, folded.words.len, evened.len, start.fits);
        room = rw odd_is (omega (arith, start.room, whole_counts, even_tallied, folded.tallied));
      }

      -- ---- after the DCT
      module _ {w₃ : List ℤ} {t₃ : Tally} (oddened : Gives (dct l (word (part b w₂))) b (n / 4) w₂ w₃ t₂ t₃) where
        odd_tallied : TalliedAs odd t₂ t₃
        odd_tallied = subst (λ t. TalliedAs t t₂ t₃) odd_is oddened.tallied

        length₃ : length w₃ ≡ length w₀
        length₃ = oddened.len ∙ folded.words.len ∙ evened.len

        -- what the join finds
        pub even_word : (k : ℕ) → k ≤ n / 4 → even_at at w₃ k ≡ even.at k
        even_word k h =
            oddened.front (at + k) (omega arith) ∙ folded.words.low (at + k) (omega arith)
            ∙ evened.coefficients k (omega (arith, Q.four)) ∙ ap (λ t. t.at k) even_is

        odd_word : (k : ℕ) → k < n / 4 → odd_at n at w₃ k ≡ odd.at k
        odd_word k h = oddened.coefficients k h ∙ ap (λ t. t.at k) odd_is

        pub join_ready : JoinReady (joins n) n at w₃ t₃
        join_ready = record {
          quarters = quarters;
          some = many;
          fits = omega (arith, start.fits, length₃);
          even_small = λ k h. rw (even_word k (omega arith)) (omega (arith, even_size k (omega arith)));
          odd_small = λ k h. rw (odd_word k h) (omega (arith, odd_size k h));
          room = omega (arith, start.room, whole_counts, even_tallied, folded.tallied, odd_tallied);
        }
          where
            even_size : (k : ℕ) → k ≤ n / 4 → nat_abs (even.at k) ≤ largest_sum + 128
            even_size k h = subst (λ t. nat_abs (t.at k) ≤ largest_sum + 128) even_is
                (K.small _ _ _ (inner even_ready.ready) k (omega (arith, as_len (n / 2) Q.half_ok)))

            odd_size : (k : ℕ) → k < n / 4 → nat_abs (odd.at k) ≤ largest_sum + 257
            odd_size k h = subst (λ t. nat_abs (t.at k) ≤ largest_sum + 257) odd_is
                (within_size (dct_within (inner odd_block_ready) k (omega (arith, quarter_is))))

        pub dft_ends : {w₄ : List ℤ} {t₄ : Tally} → Joined join (joins n) n at w₃ w₄ t₃ t₄ → DftDone transform n s at w₀ w₄ spent t₄
        dft_ends {w₄} {t₄} joined = record {
          coefficients = λ k h. joined.words.new k h
              ∙ K.join_same n quarters _ _ _ _ even_word odd_word k h ∙ sym (whole_at k);
          front = λ k h. joined.words.low k h ∙ oddened.front k (omega arith) ∙ folded.words.low k (omega arith) ∙ evened.front k h;
          tallied = omega (arith, whole_counts, even_tallied, folded.tallied, odd_tallied, joined.tallied);
          len = joined.words.len ∙ length₃;
        }
          where
            whole_at : (k : ℕ) → (transform (level n) x).at k ≡ join n even.at odd.at k
            whole_at k = rw Q.level_is (rw (sym Q.four) at (K.step l x k))

      -- ---- after the DCT of the tail, which was lent and came back as p
      module _ {p : List ℤ} {t₃ : Tally} (oddened : DctDone (n / 4) (part b w₂) p t₂ t₃) where
        whole_odd : Gives (dct l (word (part b w₂))) b (n / 4) w₂ (back b w₂ p) t₂ t₃
        whole_odd = lent tail_starts oddened

        pub lent_join_ready : JoinReady (joins n) n at (back b w₂ p) t₃
        lent_join_ready = join_ready whole_odd

        pub lent_ends : {w₄ : List ℤ} {t₄ : Tally} → Joined join (joins n) n at (back b w₂ p) w₄ t₃ t₄ →
            DftDone transform n s at w₀ w₄ spent t₄
        lent_ends = dft_ends whole_odd

-- the even samples' sine-DFT is zero where the join takes it to be
module _ {n s at : ℕ} {w₀ : List ℤ} {spent : Tally} (start : DftReady sine_dft n s at w₀ spent) (many : 4 ≤ n)
    {w₁ w₂ : List ℤ} {t₁ t₂ : Tally} (evened : DftDone sine_dft (n / 2) (2 * s) at w₀ w₁ spent t₁)
    (folded : Folded folded_differences n s (tail at n) w₁ w₂ t₁ t₂) where
  pub sine_zeros : {w₃ : List ℤ} {t₃ : Tally} → Gives (dct (level (n / 4)) (word (part (tail at n) w₂))) (tail at n) (n / 4) w₂ w₃ t₂ t₃ →
      (even_at at w₃ 0 ≡ pos 0) × (even_at at w₃ (n / 4) ≡ pos 0)
  sine_zeros oddened =
      let at-k = even_word sine_kind start many evened folded oddened in (
        at-k 0 (omega arith) ∙ sine_first _ _,
        at-k (n / 4) (omega arith) ∙ sine_last _ _ (n / 4) (omega (arith, quarter_is sine_kind start many)),
      )

  pub lent_sine_ready : {p : List ℤ} {t₃ : Tally} → DctDone (n / 4) (part (tail at n) w₂) p t₂ t₃ →
      let w₃ = back (tail at n) w₂ p in
      JoinReady (n / 2 - 2) n at w₃ t₃ × (even_at at w₃ 0 ≡ pos 0) × (even_at at w₃ (n / 4) ≡ pos 0)
  lent_sine_ready done =
      let z = sine_zeros (whole_odd sine_kind start many evened folded done) in
      (lent_join_ready sine_kind start many evened folded done, z.0, z.1)
