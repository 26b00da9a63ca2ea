use Rattle.tp_snapshot.proofs.Common.{◌∙◌, sym, ap, arith, take, drop, drop_all, encode_utf8_all, chars_of, seen_end, seen_within}
use Rattle.tp_snapshot.specs.Views.{is_in_view}
use Rattle.tp_snapshot.specs.Effects.{is_shown_after}
use Rattle.tp_snapshot.specs.Differences.{all_differences}
use Rattle.tp_snapshot.specs.declared.views.View.TheVariants.{At}
use Rattle.tp_snapshot.proofs.SnapshotLaws.{bytes_by, shown_all}
use Rattle.tp_snapshot.proofs.EffectLaws.{effect_next, text_next}
use Rattle.tp_snapshot.proofs.effects.effect_over.Goals as goal

pub loop-element-preserved : goal.loop-element-preserved
loop-element-preserved g c =
    let s = g.S.Sequence in
    let R = s.removals c.args.sequence.now in
    let L = s.placed c.args.sequence.now in
    let old = c.args.old.now in
    let m = c.args.change.now in
    let k = c.loop-element.walk.index in
    let was = is_in_view (At old) R in
    let is = is_shown_after old.clock R m in
    let lt = seen_within R L k c.in-Some.element c.in-Some.ensures.seen in
    record {
      noted = c.in-Some.ensures.spot;
      author = c.shows-shown.ensures.trail;
      few = omega (arith, c.in-Some.ensures.next, c.loop-element.invariant.few, c.in_ok-take.ensures.count);
      to = omega (arith, c.in-Some.ensures.next, lt);
      read = text_next R old L k c.in-Some.element c.shows-shown.result _ _ c.requires.old c.in-Some.ensures.seen c.shows-shown.ensures.shown c.in_ok-push_shown.ensures c.loop-element.invariant.read
          ∙ ap (λ n. bytes_by old.clock R (take n L)) (sym c.in-Some.ensures.next);
      all = ap (λ n. all_differences was is c.take.new.self (drop n L)) c.in-Some.ensures.next
          ∙ effect_next old m R L k c.in-Some.element c.loop-element.builder c.take.new.self c.shows-shown.result c.shows-shows.result
          c.requires.old c.requires.change c.in-Some.ensures.seen c.shows-shown.ensures.shown c.shows-shows.ensures c.in_ok-take.ensures.takes
          ∙ c.loop-element.invariant.all;
    }

pub finish-requires : goal.finish-requires
finish-requires g c = omega (arith, c.loop-element.invariant.few, c.loop-element.invariant.to, c.all-all.ensures)

pub returns-clause-text : goal.returns-clause-text
returns-clause-text g c =
    let s = g.S.Sequence in
    let R = s.removals c.args.sequence.now in
    let L = s.placed c.args.sequence.now in
    c.loop-element.invariant.read
    ∙ ap (λ l. encode_utf8_all (chars_of l)) (shown_all c.args.old.now.clock R L c.loop-element.walk.index (sym c.in_default.is ∙ c.next_element.ensures.seen))

pub returns-clause-differences : goal.returns-clause-differences
returns-clause-differences g c =
    let s = g.S.Sequence in
    let R = s.removals c.args.sequence.now in
    let L = s.placed c.args.sequence.now in
    let old = c.args.old.now in
    let none = drop_all c.loop-element.walk.index L (seen_end R L c.loop-element.walk.index (sym c.in_default.is ∙ c.next_element.ensures.seen)) in
    c.in_ok-differences.ensures
    ∙ sym (ap (all_differences (is_in_view (At old) R) (is_shown_after old.clock R c.args.change.now) c.loop-element.builder) none)
    ∙ c.loop-element.invariant.all
