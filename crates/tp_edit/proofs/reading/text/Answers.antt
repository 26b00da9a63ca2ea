use Rattle.std.proofs.Common.{sym, ◌∙◌, arith}
use Rattle.tp_rga.proofs.Walking.{seen_within}
use Rattle.tp_edit.proofs.ShownText.{pushed_on, passed_on, whole_text}
use Rattle.tp_edit.proofs.reading.text.Goals as goal

pub loop-element-preserved-in-Continue-branch-2 : goal.loop-element-preserved-in-Continue-branch-2
loop-element-preserved-in-Continue-branch-2 g c =
    let s = g.S.Sequence in
    let R = s.removals c.args.sequence.now in
    let L = s.placed c.args.sequence.now in
    record {
      noted = c.in-Some.ensures.spot;
      read = pushed_on R L c.loop-element.walk.index _ c.in-Some.element _ _ c.in_ok-push.ensures.bytes c.loop-element.invariant.read c.in-Some.ensures.seen c.in-Some.ensures.next c.if-not-element.true;
    }

pub loop-element-smaller : goal.loop-element-smaller
loop-element-smaller g c =
    let s = g.S.Sequence in
    let lt = seen_within (s.removals c.args.sequence.now) (s.placed c.args.sequence.now) c.loop-element.walk.index c.in-Some.element c.in-Some.ensures.seen in
    omega (arith, c.in-Some.ensures.next)

pub loop-element-preserved : goal.loop-element-preserved
loop-element-preserved g c =
    let s = g.S.Sequence in
    let R = s.removals c.args.sequence.now in
    let L = s.placed c.args.sequence.now in
    record {
      noted = c.in-Some.ensures.spot;
      read = passed_on R L c.loop-element.walk.index _ c.in-Some.element _ c.loop-element.invariant.read c.in-Some.ensures.seen c.in-Some.ensures.next c.if-not-element.false;
    }

pub returns : goal.returns
returns g c =
    let s = g.S.Sequence in
    whole_text (s.removals c.args.sequence.now) (s.placed c.args.sequence.now) c.loop-element.walk.index _ c.loop-element.invariant.read (sym c.in_default.is ∙ c.next_element.ensures.seen)
