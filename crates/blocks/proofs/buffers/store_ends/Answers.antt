-- Two stores, of one word where there is no more.
use Rattle.std.proofs.Common.{ap, arith, rules}
use Rattle.words.specs.Words.{word}
use Rattle.words.proofs.Writing.{two_put}
use Rattle.blocks.proofs.buffers.store_ends.Goals as goal

pub returns : goal.returns
returns c = two_put (omega (arith, c.requires.in_bounds)) (ap (word c.args.cosine.now)) (search rules) (search rules)
