use Rattle.std.proofs.Common.{◌∙◌, arith}
use Rattle.tp_rga.specs.Shown.{visible_of}
use Rattle.tp_edit.specs.declared.landing.Landing.{Landing}
use Rattle.tp_edit.specs.EditRecords.{ids_of}
use Rattle.tp_edit.proofs.Landed.{IsTraced-all, stepped, traced_before, traced_new, traced_after, traced_end}
use Rattle.tp_edit.proofs.landing.traced_id.Goals as goal

pub loop-left-init : goal.loop-left-init
loop-left-init g c =
    let V = ids_of (visible_of (g.S.Sequence.removals c.args.sequence.now) (g.S.Sequence.placed c.args.sequence.now)) in
    record { traced = IsTraced-all c.args.actor V c.args.landings.now c.args.position c.requires.fit c.requires.there; near = omega (arith, c.requires.near) }

pub overflow_add-counter : goal.overflow_add-counter
overflow_add-counter g c =
    let V = ids_of (visible_of (g.S.Sequence.removals c.args.sequence.now) (g.S.Sequence.placed c.args.sequence.now)) in
    let d : Landing = record { at = 0; del = 0; len = 0; first = 0 } in
    let back = stepped c.args.actor V c.args.landings.now c.args.position c.loop-left.left c.loop-left.position d c.loop-left-test.true c.loop-left.invariant.traced in
    omega (arith, back.last.counters, c.if-at-position.true, c.if-position-at.true)

pub returns-then-position-at : goal.returns-then-position-at
returns-then-position-at g c =
    let V = ids_of (visible_of (g.S.Sequence.removals c.args.sequence.now) (g.S.Sequence.placed c.args.sequence.now)) in
    let d : Landing = record { at = 0; del = 0; len = 0; first = 0 } in
    let left = c.loop-left.left in
    let back = stepped c.args.actor V c.args.landings.now c.args.position left c.loop-left.position d c.loop-left-test.true c.loop-left.invariant.traced in
    traced_new c.args.actor V c.args.landings.now c.args.position _ c.loop-left.position _ back c.if-at-position.true c.if-position-at.true

pub loop-left-preserved-then-at-position : goal.loop-left-preserved-then-at-position
loop-left-preserved-then-at-position g c =
    let V = ids_of (visible_of (g.S.Sequence.removals c.args.sequence.now) (g.S.Sequence.placed c.args.sequence.now)) in
    let d : Landing = record { at = 0; del = 0; len = 0; first = 0 } in
    let back = stepped c.args.actor V c.args.landings.now c.args.position c.loop-left.left c.loop-left.position d c.loop-left-test.true c.loop-left.invariant.traced in
    record {
      traced = traced_after c.args.actor V c.args.landings.now c.args.position _ c.loop-left.position _ back c.if-position-at.false;
      near = omega (arith, c.loop-left.invariant.near, c.if-position-at.false, c.if-at-position.true, c.loop-left-test.true);
    }

pub loop-left-preserved : goal.loop-left-preserved
loop-left-preserved g c =
    let V = ids_of (visible_of (g.S.Sequence.removals c.args.sequence.now) (g.S.Sequence.placed c.args.sequence.now)) in
    let d : Landing = record { at = 0; del = 0; len = 0; first = 0 } in
    let back = stepped c.args.actor V c.args.landings.now c.args.position c.loop-left.left c.loop-left.position d c.loop-left-test.true c.loop-left.invariant.traced in
    record {
      traced = traced_before c.args.actor V c.args.landings.now c.args.position _ c.loop-left.position _ back c.if-at-position.false;
      near = omega (arith, c.loop-left.invariant.near);
    }

pub visible_id-requires-clause-there : goal.visible_id-requires-clause-there
visible_id-requires-clause-there g c =
    let L = visible_of (g.S.Sequence.removals c.args.sequence.now) (g.S.Sequence.placed c.args.sequence.now) in
    (traced_end c.args.actor (ids_of L) c.args.landings.now c.args.position c.loop-left.left c.loop-left.position c.loop-left-test.false c.loop-left.invariant.traced).1

pub returns : goal.returns
returns g c =
    let L = visible_of (g.S.Sequence.removals c.args.sequence.now) (g.S.Sequence.placed c.args.sequence.now) in
    let end = traced_end c.args.actor (ids_of L) c.args.landings.now c.args.position c.loop-left.left c.loop-left.position c.loop-left-test.false c.loop-left.invariant.traced in
    end.0 ∙ c.visible_id.ensures
