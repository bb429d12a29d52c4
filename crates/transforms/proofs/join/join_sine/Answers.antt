use Rattle.std.proofs.Common.{◌+◌, ◌/◌, ◌-◌, ◌≡◌, arith, rules}
use Rattle.words.proofs.Writing.{ends_none, ends_front, ends_turn, ends_pass, ends_all, written_more}
use Rattle.transforms.specs.Steps.{even_at, odd_at}
use Rattle.transforms.proofs.Joining.{sine_first, sine_front, sine_back, sine_middle, sine_last, join_turn}
use Rattle.transforms.proofs.join.join_sine.Goals as goal

pub loop-k-init : goal.loop-k-init
loop-k-init c =
    let r = c.requires.0 in
    let w = c.args.w.now in (
      omega arith,
      ends_pass ends_none (omega (arith, r.some))
          (sine_first c.args.n r.quarters (even_at c.args.at w) (odd_at c.args.n c.args.at w)),
    )

pub overflow_add-w : goal.overflow_add-w
overflow_add-w c =
    let t = join_turn c.requires.0 c.loop-k.invariant.1 c.loop-k.k (c.args.n / 4 - c.loop-k.k) (omega arith) in search rules

pub overflow_sub-w : goal.overflow_sub-w
overflow_sub-w c =
    let t = join_turn c.requires.0 c.loop-k.invariant.1 c.loop-k.k (c.args.n / 4 - c.loop-k.k) (omega arith) in search rules

pub loop-k-preserved : goal.loop-k-preserved
loop-k-preserved c =
    let n = c.args.n in
    let k = c.loop-k.k in
    let r = c.requires.0 in
    let E = even_at c.args.at c.args.w.now in
    let D = odd_at n c.args.at c.args.w.now in
    let t = join_turn r c.loop-k.invariant.1 k (n / 4 - k) (omega arith) in
    let front = sine_front n r.quarters E D k (omega arith) (omega arith) in
    let back = sine_back n r.quarters E D k (omega arith) (omega arith) in
    (omega arith, ends_turn c.loop-k.invariant.1 (n / 2 - k) (omega arith) (search rules) (search rules))

pub returns : goal.returns
returns c =
    let n = c.args.n in
    let r = c.requires.0 in
    let E = even_at c.args.at c.args.w.now in
    let D = odd_at n c.args.at c.args.w.now in
    let middle : c.loop-k.k ≡ n / 4 = omega (arith, r.some) in
    let run = rw middle at c.loop-k.invariant.1 in
    let d = run.high (c.args.at + n / 2 + 1) (omega arith) in
    let small = r.odd_small 0 (omega arith) in
    let at_quarter = sine_middle n r.quarters E D c.requires.2 r.some in
    record {
      words = written_more (ends_all (ends_front run (omega arith) (search rules)) (omega arith)) (omega arith)
          (sine_last n r.quarters E D c.requires.1 r.some);
      tallied = omega arith;
    }
