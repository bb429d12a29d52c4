-- Two stores at different places.
use Rattle.std.proofs.Common.{arith, rules}
use Rattle.words.proofs.Writing.{two_put}
use Rattle.blocks.proofs.buffers.put_sum_and_difference.Goals as goal

pub returns : goal.returns
returns c = record {
  both = two_put (omega arith) (λ same. absurd (c.requires.apart same)) (search rules) (search rules);
  tallied = search rules;
}
