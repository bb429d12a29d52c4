use Rattle.std.proofs.Common.{◌+◌, ◌*◌}
use Rattle.transforms.proofs.+cosine_dft_dct_sine_dft.Given as goal

-- the rank, of the length and the transform: 2 n for a DFT, 2 n + 1 for the DCT. A DCT of n calls DFTs of n, and a DFT of n calls itself
-- at n / 2 and a DCT of n / 4
abbrev pub decreases-cosine_dft : goal.decreases-cosine_dft
decreases-cosine_dft l = 2 * l.n

abbrev pub decreases-dct : goal.decreases-dct
decreases-dct l = 2 * l.n + 1

abbrev pub decreases-sine_dft : goal.decreases-sine_dft
decreases-sine_dft l = 2 * l.n
