-- `counts::counts_of` meets its contract: at one sample the definitions compute.
use lib.Count.{count_trailing_zeros}
use Rattle.std.proofs.Common.{◌≡◌, ℕ, ◌^◌, true, sym, ap, ◌∙◌, rules}
use Rattle.ffct.specs.Transforms.{dct_by, cosine_dft, sine_dft, dct, spectrum, pair}
use Rattle.lengths.specs.Block.{is_length}
use Rattle.lengths.proofs.ElevenLengths.{one_level, from_two, trailing, some_level, level_le, is_power}
use Rattle.counts.proofs.counts_of.Goals as goal

pub returns-then-n-eq1 : goal.returns-then-n-eq1
unfolding dct_by cosine_dft sine_dft dct spectrum pair
returns-then-n-eq1 c = rw (one_level c.args.length.samples c.if-n-eq1.true) (search rules)

pub at-requires : goal.at-requires
at-requires c =
    let (ok, two, most) = from_two _ c.args.length.is_length c.if-n-eq1.false in
    rw (trailing _ ok) (some_level _ ok two, level_le _ ok)

-- the level has n samples
samples : {n m : ℕ} → is_length n ≡ true → m ≡ 2 ^ count_trailing_zeros 64 n → m ≡ n
samples {n} h e = e ∙ ap (λ k. 2 ^ k) (trailing n h) ∙ sym (is_power n h)

pub returns : goal.returns
returns c = rw (samples c.args.length.is_length c.at.ensures) at c.six_counts.ensures
