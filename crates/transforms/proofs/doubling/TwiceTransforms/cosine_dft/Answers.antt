use Rattle.std.proofs.Common.{arith}
use Rattle.lengths.proofs.ElevenLengths.{length_le}
use Rattle.transforms.proofs.DftRuns.{cosine_kind}
use Rattle.transforms.proofs.Halves.{stride_below, even_ready, fold_ready, odd_ready, join_ready, dft_ends}
use Rattle.transforms.proofs.doubling.TwiceTransforms.cosine_dft.Goals as goal

pub length-n-requires : goal.length-n-requires
length-n-requires g c = length_le _ c.requires.ready.length_ok

pub overflow_mul-stride : goal.overflow_mul-stride
overflow_mul-stride g c = omega (arith, stride_below c.requires c.length-n.ensures g.met.H.Transforms.some cosine_kind)

pub cosine_dft-even-requires : goal.cosine_dft-even-requires
cosine_dft-even-requires g c = even_ready c.requires c.length-n.ensures g.met.H.Transforms.some cosine_kind

pub put_folded_sums-folded-requires : goal.put_folded_sums-folded-requires
put_folded_sums-folded-requires g c =
    fold_ready c.requires c.length-n.ensures g.met.H.Transforms.some cosine_kind c.cosine_dft-even.ensures

pub half_dct-odd-requires : goal.half_dct-odd-requires
half_dct-odd-requires g c =
    odd_ready c.requires c.length-n.ensures g.met.H.Transforms.some cosine_kind c.cosine_dft-even.ensures c.put_folded_sums-folded.ensures

pub join_cosine-requires : goal.join_cosine-requires
join_cosine-requires g c =
    join_ready c.requires c.length-n.ensures g.met.H.Transforms.some cosine_kind c.cosine_dft-even.ensures c.put_folded_sums-folded.ensures
    c.half_dct-odd.ensures

pub returns : goal.returns
returns g c =
    dft_ends c.requires c.length-n.ensures g.met.H.Transforms.some cosine_kind c.cosine_dft-even.ensures c.put_folded_sums-folded.ensures
    c.half_dct-odd.ensures c.join_cosine.ensures
