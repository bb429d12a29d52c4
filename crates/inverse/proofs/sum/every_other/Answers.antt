-- A turn adds one product more.
use Rattle.std.proofs.Common.{◌∙◌, arith, rules}
use Rattle.std.proofs.lemmas.List.{length_push}
use Rattle.whole.proofs.Words.{held}
use Rattle.inverse.proofs.Adding.{sum_none, sum_ready, sum_more, turned, place_start, place_on, place_wave}
use Rattle.inverse.proofs.sum.every_other.Goals as goal

pub loop-pair-init : goal.loop-pair-init
loop-pair-init c = record {
  size = search rules;
  rest = search rules;
  some = omega arith;
  place_is = place_start _ _ c.requires.even_or_odd c.requires.half_turn;
  made = sum_none;
}

pub add_product-sum-requires : goal.add_product-sum-requires
add_product-sum-requires c =
    let l = c.loop-pair.invariant in
    let (_, (cut, two), _) = c.in-Some.ensures.steps in
    let turn = turned l.some l.rest cut (two ∙ l.size) in
    let t = place_wave _ _ c.wave_on_circle.ensures l.place_is in
    sum_ready l.made (search (rules, turn.here)) (held c.wave_on_circle.type_inv t).is c.requires (omega (arith, turn.some))

pub loop-pair-preserved : goal.loop-pair-preserved
loop-pair-preserved c =
    let l = c.loop-pair.invariant in
    let (size, (cut, two), _) = c.in-Some.ensures.steps in
    let turn = turned l.some l.rest cut (two ∙ l.size) in
    let t = place_wave _ _ c.wave_on_circle.ensures l.place_is in
    rw (length_push c.loop-pair.yielded c.in-Some.pair) (record {
      size = size ∙ l.size;
      rest = turn.on;
      some = turn.some;
      place_is = place_on _ _ _ _ l.place_is;
      made = sum_more l.made (search (rules, turn.here)) (held c.wave_on_circle.type_inv t).is c.add_product-sum.ensures;
    })
