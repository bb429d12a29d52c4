-- A turn makes one coefficient more at each end of both parts; the stores behind the loop make what it has left.
use Rattle.std.proofs.Common.{◌≡◌, ◌+◌, ◌*◌, ◌/◌, ◌≤◌, ◌<◌, arith, rules, length}
use Rattle.blocks.proofs.Parts.{quarters, adding, subtracting, real_turn, imaginary_turn, part_ends, parts_sums}
use Rattle.blocks.proofs.buffers.join_parts.Goals as goal

pub put_sum_and_difference-of_real-requires : goal.put_sum_and_difference-of_real-requires
put_sum_and_difference-of_real-requires c =
    let q = quarters c.split_at.ensures.front c.split_at.ensures.back c.split_at-2.ensures.front c.split_at-2.ensures.back
    c.split_at-3.ensures.front c.split_at-3.ensures.back in
    let even = c.requires.whole (λ e. omega arith) in
    let inner : c.loop-k.k < length c.args.real.now / 2 + 1 = omega arith in
    record {
      fits = omega arith;
      x_small = search (rules, q.first);
      y_small = search (rules, q.fourth);
      apart = omega arith;
      room = omega (arith, c.requires.room);
    }

pub loop-k-preserved : goal.loop-k-preserved
loop-k-preserved c =
    let q = quarters c.split_at.ensures.front c.split_at.ensures.back c.split_at-2.ensures.front c.split_at-2.ensures.back
    c.split_at-3.ensures.front c.split_at-3.ensures.back in
    let even = c.requires.whole (λ e. omega arith) in
    let inner : c.loop-k.k < length c.args.real.now / 2 + 1 = omega arith in
    let place : (2 * (length c.args.real.now / 2) ≡ length c.args.real.now) × (1 ≤ c.loop-k.k) ×
    (c.loop-k.k < length c.args.real.now / 2) = (even, omega arith, omega arith) in
    record {
      real_ends = real_turn c.requires.of_real place c.loop-k.invariant.real_ends
          c.put_sum_and_difference-of_real.ensures (search (rules, q.first)) (search (rules, q.fourth));
      imaginary_ends = imaginary_turn c.requires.of_imaginary place c.loop-k.invariant.imaginary_ends
          c.put_sum_and_difference-tally.ensures (search (rules, q.third)) (search (rules, q.second));
      tallied = omega (
        arith,
        c.loop-k.invariant.tallied,
        c.put_sum_and_difference-of_real.ensures.tallied,
        c.put_sum_and_difference-tally.ensures.tallied,
      );
    }

pub store_ends-requires-clause-by_index : goal.store_ends-requires-clause-by_index
store_ends-requires-clause-by_index c = λ k h.
    let inner : k < length c.args.real.now / 2 + 1 = omega (arith, c.split_at-2.ensures.front_len) in
    let q = quarters c.split_at.ensures.front c.split_at.ensures.back c.split_at-2.ensures.front c.split_at-2.ensures.back
    c.split_at-3.ensures.front c.split_at-3.ensures.back in
    rw (q.first k inner) (omega (arith, c.requires.of_real.cosine_small k inner))

pub returns : goal.returns
returns c =
    let q = quarters c.split_at.ensures.front c.split_at.ensures.back c.split_at-2.ensures.front c.split_at-2.ensures.back
    c.split_at-3.ensures.front c.split_at-3.ensures.back in
    let s = c.requires in
    record {
      real_words = part_ends adding s.of_real (omega (arith, s.some)) s.whole c.loop-k.invariant.real_ends
          c.store_ends.ensures (q.first 0 (omega arith)) (q.first _ (omega arith));
      imaginary_words = part_ends subtracting s.of_imaginary (omega (arith, s.some)) s.whole c.loop-k.invariant.imaginary_ends
          c.store_ends-2.ensures (q.third 0 (omega arith)) (q.third _ (omega arith));
      tallied = rw (parts_sums _ c.loop-k.k s.whole (omega arith)) at c.loop-k.invariant.tallied;
    }
