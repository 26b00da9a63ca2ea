use Rattle.tp_snapshot.proofs.Common.{◌-◌, ◌∙◌, [], sym, ap, subst, arith, take, drop, seen_end, IfSome}
use Rattle.tp_snapshot.specs.Views.{is_in_view}
use Rattle.tp_snapshot.specs.declared.views.View.TheVariants.{At}
use Rattle.tp_snapshot.specs.Differences.{all_differences, differences_from}
use Rattle.tp_snapshot.proofs.BuilderLaws.{builder_next, builder_start}
use Rattle.tp_snapshot.proofs.differences.differences_over.Goals as goal

pub elements-init : goal.elements-init
elements-init g c =
    let s = g.S.Sequence in
    let R = s.removals c.args.sequence.now in
    let L = s.placed c.args.sequence.now in
    let w = c.args.window.now in
    let was = is_in_view (At c.args.old.now) R in
    let is = is_in_view c.args.new.now R in
    let start = c.walk-walk.result in
    record {
      noted = subst (λ o. IfSome o (λ spot. s.present_at c.args.sequence.now spot start.index)) (sym c.walk-walk.ensures.spot) tt;
      old = c.trail-old_trail.ensures;
      new = c.trail-new_trail.ensures;
      from = omega (arith, c.walk-walk.ensures.index);
      to = omega (arith, c.walk-walk.ensures.index, c.requires.window.rises);
      few = builder_start c.new-builder.result R L w.at w.from start.index c.new-builder.ensures c.requires.window.at c.walk-walk.ensures.index;
      all = ap (λ b. all_differences was is b (take (w.to - start.index) (drop start.index L))) c.new-builder.ensures
          ∙ ap (λ i. differences_from was is w.at 0 [] (take (w.to - i) (drop i L))) c.walk-walk.ensures.index;
    }

pub unreachable-requires : goal.unreachable-requires
unreachable-requires g c =
    let s = g.S.Sequence in
    let past = seen_end (s.removals c.args.sequence.now) (s.placed c.args.sequence.now) c.elements.walk.index (sym c.in-None.is ∙ c.next_element.ensures.seen) in
    omega (arith, c.elements-test.true, c.requires.window.within)

pub elements-preserved : goal.elements-preserved
elements-preserved g c =
    let s = g.S.Sequence in
    let R = s.removals c.args.sequence.now in
    let L = s.placed c.args.sequence.now in
    let w = c.args.window.now in
    let was = is_in_view (At c.args.old.now) R in
    let is = is_in_view c.args.new.now R in
    record {
      noted = c.in-Some.ensures.spot;
      old = c.shows-shown.ensures.trail;
      new = c.shows-shows.ensures.trail;
      from = omega (arith, c.in-Some.ensures.next, c.elements.invariant.from);
      to = omega (arith, c.in-Some.ensures.next, c.elements-test.true);
      few = omega (arith, c.in-Some.ensures.next, c.elements.invariant.few, c.in_ok-take.ensures.count);
      all = ap (λ n. all_differences was is c.take.new.self (take (w.to - n) (drop n L))) c.in-Some.ensures.next
          ∙ builder_next (At c.args.old.now) c.args.new.now R L w c.elements.walk.index c.in-Some.element c.elements.builder c.take.new.self c.shows-shown.result c.shows-shows.result
          c.requires.old c.requires.new c.elements.invariant.from c.elements-test.true c.in-Some.ensures.seen c.shows-shown.ensures.shown c.shows-shows.ensures.shown c.in_ok-take.ensures.takes
          ∙ c.elements.invariant.all;
    }
