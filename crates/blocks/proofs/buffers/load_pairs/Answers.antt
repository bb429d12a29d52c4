-- One sample is its own mirror image; of more, a turn stores a pair.
use Rattle.std.proofs.Common.{◌≡◌, sym, ◌∙◌, ◌+◌, ◌*◌, arith, rules, to_z, of_z, w64}
use Rattle.words.specs.Words.{word}
use Rattle.words.proofs.Writing.{ends_front, ends_all, written_one}
use Rattle.lengths.proofs.ElevenLengths.{length_pos, half}
use Rattle.blocks.proofs.Pairing.{pairs_even, pairs_odd}
use Rattle.blocks.proofs.buffers.load_pairs.Goals as goal

pub returns-then-n-eq1 : goal.returns-then-n-eq1
returns-then-n-eq1 c =
    let x = word c.args.block.now in
    let e : to_z w64 (of_z w64 c.from.result) ≡ x 0 = search rules in
    rw c.if-n-eq1.true (written_one (omega arith) (e ∙ sym (pairs_even 1 x 0)))

pub loop-i-preserved : goal.loop-i-preserved
loop-i-preserved c =
    let x = word c.args.block.now in
    let i = c.loop-i.i in
    let two : 2 * i + 1 + 1 ≡ 2 * (i + 1) = omega arith in
    rw (sym two) (ends_front
    (ends_front c.loop-i.invariant (omega arith) (search (rules, pairs_even)))
    (omega arith) (search (rules, pairs_odd)))

pub returns : goal.returns
returns c =
    let ok = c.requires.0 in
    ends_all c.loop-i.invariant (omega (arith, (half _ ok (omega (arith, length_pos _ ok))).twice))
