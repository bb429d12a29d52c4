use Rattle.std.proofs.Common.{rules, arith}
use Rattle.transforms.proofs.DftRuns.{
  cosine_kind,
  sine_kind,
  even_ready,
  fold_ready,
  odd_ready,
  lent_join_ready,
  lent_sine_ready,
  lent_ends,
}
use Rattle.transforms.proofs.DctRuns.{cosine_ready, sine_ready, rotation_ready, dct_ends}
use Rattle.transforms.proofs.+cosine_dft_dct_sine_dft.Goals as goal

pub cosine_dft-cosine_dft-even-requires : goal.cosine_dft-cosine_dft-even-requires
cosine_dft-cosine_dft-even-requires t c = let ready = even_ready cosine_kind c.requires (omega arith) in search rules

pub cosine_dft-put_folded_sums-folded-requires : goal.cosine_dft-put_folded_sums-folded-requires
cosine_dft-put_folded_sums-folded-requires t c = fold_ready cosine_kind c.requires (omega arith) c.cosine_dft-even.ensures

pub cosine_dft-dct-odd-requires : goal.cosine_dft-dct-odd-requires
cosine_dft-dct-odd-requires t c =
    let ready = odd_ready cosine_kind c.requires (omega arith) c.cosine_dft-even.ensures c.put_folded_sums-folded.ensures in
    search rules

pub cosine_dft-join_cosine-requires : goal.cosine_dft-join_cosine-requires
cosine_dft-join_cosine-requires t c =
    lent_join_ready cosine_kind c.requires (omega arith) c.cosine_dft-even.ensures c.put_folded_sums-folded.ensures c.dct-odd.ensures

pub cosine_dft-returns : goal.cosine_dft-returns
cosine_dft-returns t c =
    lent_ends cosine_kind c.requires (omega arith) c.cosine_dft-even.ensures c.put_folded_sums-folded.ensures c.dct-odd.ensures
    c.join_cosine.ensures

pub dct-cosine_dft-cosine-requires : goal.dct-cosine_dft-cosine-requires
dct-cosine_dft-cosine-requires t c = let ready = cosine_ready c.requires (omega arith) in search rules

pub dct-sine_dft-sine-requires : goal.dct-sine_dft-sine-requires
dct-sine_dft-sine-requires t c = let ready = sine_ready c.requires (omega arith) c.cosine_dft-cosine.ensures in search rules

pub dct-rotate-requires : goal.dct-rotate-requires
dct-rotate-requires t c = rotation_ready c.requires (omega arith) c.cosine_dft-cosine.ensures c.sine_dft-sine.ensures

pub dct-returns : goal.dct-returns
dct-returns t c = dct_ends c.requires (omega arith) c.cosine_dft-cosine.ensures c.sine_dft-sine.ensures c.rotate.ensures

pub sine_dft-sine_dft-even-requires : goal.sine_dft-sine_dft-even-requires
sine_dft-sine_dft-even-requires t c = let ready = even_ready sine_kind c.requires (omega arith) in search rules

pub sine_dft-put_folded_differences-folded-requires :
    goal.sine_dft-put_folded_differences-folded-requires
sine_dft-put_folded_differences-folded-requires t c = fold_ready sine_kind c.requires (omega arith) c.sine_dft-even.ensures

pub sine_dft-dct-odd-requires : goal.sine_dft-dct-odd-requires
sine_dft-dct-odd-requires t c =
    let ready = odd_ready sine_kind c.requires (omega arith) c.sine_dft-even.ensures c.put_folded_differences-folded.ensures in
    search rules

pub sine_dft-join_sine-requires : goal.sine_dft-join_sine-requires
sine_dft-join_sine-requires t c =
    lent_sine_ready c.requires (omega arith) c.sine_dft-even.ensures c.put_folded_differences-folded.ensures c.dct-odd.ensures

pub sine_dft-returns : goal.sine_dft-returns
sine_dft-returns t c =
    lent_ends sine_kind c.requires (omega arith) c.sine_dft-even.ensures c.put_folded_differences-folded.ensures c.dct-odd.ensures
    c.join_sine.ensures
