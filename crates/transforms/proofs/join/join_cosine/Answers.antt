use Rattle.std.proofs.Common.{◌/◌, ◌-◌, ◌≡◌, arith, rules}
use Rattle.words.proofs.Writing.{ends_none, ends_turn, ends_pass, ends_all}
use Rattle.transforms.specs.Steps.{even_at, odd_at}
use Rattle.transforms.proofs.Joining.{cosine_front, cosine_back, cosine_middle, join_turn}
use Rattle.transforms.proofs.join.join_cosine.Goals as goal

pub loop-k-init : goal.loop-k-init
loop-k-init c = (omega arith, ends_none)

pub overflow_add-w : goal.overflow_add-w
overflow_add-w c = let t = join_turn c.requires c.loop-k.invariant.1 c.loop-k.k c.loop-k.k (omega arith) in search rules

pub overflow_sub-w : goal.overflow_sub-w
overflow_sub-w c = let t = join_turn c.requires c.loop-k.invariant.1 c.loop-k.k c.loop-k.k (omega arith) in search rules

pub loop-k-preserved : goal.loop-k-preserved
loop-k-preserved c =
    let n = c.args.n in
    let k = c.loop-k.k in
    let E = even_at c.args.at c.args.w.now in
    let D = odd_at n c.args.at c.args.w.now in
    let t = join_turn c.requires c.loop-k.invariant.1 k k (omega arith) in
    let front = cosine_front n c.requires.quarters E D k (omega arith) in
    let back = cosine_back n c.requires.quarters E D k (omega arith) in
    (omega arith, ends_turn c.loop-k.invariant.1 (n / 2 - k) (omega arith) (search rules) (search rules))

pub returns : goal.returns
returns c =
    let n = c.args.n in
    let w = c.args.w.now in
    let middle : c.loop-k.k ≡ n / 4 = omega arith in
    let run = rw middle at c.loop-k.invariant.1 in
    let last = cosine_middle n c.requires.quarters (even_at c.args.at w) (odd_at n c.args.at w) in
    record { words = ends_all (ends_pass run (omega arith) last) (omega arith); tallied = omega arith }
