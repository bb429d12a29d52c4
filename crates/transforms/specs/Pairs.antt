-- The order in which a cosine- or sine-DFT finds its block: sample i and its mirror image, sample n - 1 - i, stand side by side. It is
-- the order from which (16) makes a block, so the samples of a DCT, as they stand, are its rearranged block in this order; of a block in
-- this order the even samples are every other pair.
use Rattle.std.specs.Prelude.{cond, ℕ, ◌-◌, ◌*◌, ltb}
use Rattle.words.specs.Words.{Samples}

-- the block of n samples whose pairs stand in z, with a stride of s pairs: sample i of the first half is z (2 s i), and its mirror image
-- stands at the end of the same stride
unfoldable pub paired : ℕ → ℕ → Samples → Samples
paired n s z i = cond (ltb (2 * i) n) (z (2 * s * i)) (z (2 * s * (n - i) - 1))
