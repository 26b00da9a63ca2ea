use Rattle.tp_world.proofs.Common.{◌++◌, ◌∷◌, [], sym, ap, ◌∙◌, arith, seen_within}
use Rattle.tp_world.proofs.OrderLaws.{pairs_all, pairs_more}
use Rattle.tp_world.proofs.ordering.elements_of.Goals as goal

pub loop-element-preserved : goal.loop-element-preserved
loop-element-preserved g c =
    let s = g.S.Sequence in
    let R = s.removals c.args.sequence.now in
    let L = s.placed c.args.sequence.now in
    let element = c.in-Some.element in
    record {
      noted = c.in-Some.ensures.spot;
      pairs = c.in_ok-push.ensures.items ∙ ap (λ l. l ++ (element.id, element.ch) ∷ []) c.loop-element.invariant.pairs
          ∙ sym (pairs_more R L c.loop-element.walk.index _ element c.in-Some.ensures.seen c.in-Some.ensures.next);
    }

pub loop-element-smaller : goal.loop-element-smaller
loop-element-smaller g c =
    let s = g.S.Sequence in
    let within = seen_within (s.removals c.args.sequence.now) (s.placed c.args.sequence.now) c.loop-element.walk.index c.in-Some.element c.in-Some.ensures.seen in
    omega (arith, c.in-Some.ensures.next)

pub returns : goal.returns
returns g c =
    let s = g.S.Sequence in
    c.loop-element.invariant.pairs ∙ pairs_all (s.removals c.args.sequence.now) (s.placed c.args.sequence.now) c.loop-element.walk.index (sym c.in_default.is ∙ c.next_element.ensures.seen)
