use Rattle.lengths.proofs.ElevenLengths.{length_le}
use Rattle.transforms.proofs.Halves.{cosine_ready, sine_ready, rotation_ready, dct_ends}
use Rattle.transforms.proofs.doubling.TwiceTransforms.dct.Goals as goal

pub length-n-requires : goal.length-n-requires
length-n-requires g c = length_le _ c.requires.ready.length_ok

pub cosine_dft-cosine-requires : goal.cosine_dft-cosine-requires
cosine_dft-cosine-requires g c = cosine_ready c.requires c.length-n.ensures g.met.H.Transforms.some

pub sine_dft-sine-requires : goal.sine_dft-sine-requires
sine_dft-sine-requires g c = sine_ready c.requires c.length-n.ensures g.met.H.Transforms.some c.cosine_dft-cosine.ensures

pub rotate-requires : goal.rotate-requires
rotate-requires g c = rotation_ready c.requires c.length-n.ensures g.met.H.Transforms.some c.cosine_dft-cosine.ensures
    c.sine_dft-sine.ensures

pub returns : goal.returns
returns g c = dct_ends c.requires c.length-n.ensures g.met.H.Transforms.some c.cosine_dft-cosine.ensures c.sine_dft-sine.ensures
    c.rotate.ensures
