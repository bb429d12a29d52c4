-- The value of one coefficient is that coefficient; of more, all are stored in pairs.
use Rattle.std.proofs.Common.{arith, rules}
use Rattle.words.proofs.Writing.{ends_all, written_one}
use Rattle.lengths.proofs.ElevenLengths.{from_two, twice_half}
use Rattle.inverse.proofs.Values.{value_one}
use Rattle.inverse.proofs.value.put_values.Goals as goal

pub returns-then-n-eq1 : goal.returns-then-n-eq1
returns-then-n-eq1 c = rw c.if-n-eq1.true (written_one (omega arith) (search (rules, value_one)))

pub returns : goal.returns
returns c =
    let (_, two, _) = from_two _ c.requires.0.length_ok c.if-n-eq1.false in
    ends_all c.loop-i.invariant (omega (arith, twice_half _ c.requires.0.length_ok two))
