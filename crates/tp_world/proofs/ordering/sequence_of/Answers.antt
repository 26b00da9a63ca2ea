use Rattle.tp_world.proofs.Common.{◌≤◌, List, sym, subst, ◌∙◌, inserts, Insert, IsInOrder, take}
use Rattle.tp_change.proofs.OpsLaws.{length-ops_of}
use Rattle.tp_world.proofs.OrderLaws.{next_applies, next_placed}
use Rattle.tp_world.proofs.ordering.sequence_of.Goals as goal

pub apply_change-requires-clause-fits : goal.apply_change-requires-clause-fits
apply_change-requires-clause-fits g c =
    next_applies c.args.changes.now c.loop-change.change-index c.change-item.result (g.S.Sequence.placed c.reserve.new.self) c.requires c.loop-change-test.true c.change-item.is
    (subst (λ (L : List Insert). IsInOrder (inserts (take c.loop-change.change-index c.args.changes.now)) L) (sym c.reserve.ensures.placed) c.loop-change.invariant)

pub apply_change-requires-clause-room : goal.apply_change-requires-clause-room
apply_change-requires-clause-room g c =
    subst (λ n. n ≤ g.S.Sequence.room c.reserve.new.self) (c.op_count.ensures ∙ sym (length-ops_of c.change-item.result)) c.in_ok-reserve.ensures.ok

pub loop-change-preserved : goal.loop-change-preserved
loop-change-preserved g c =
    next_placed c.args.changes.now c.loop-change.change-index c.change-item.result (g.S.Sequence.placed c.reserve.new.self) _ c.requires c.loop-change-test.true c.change-item.is
    (subst (λ (L : List Insert). IsInOrder (inserts (take c.loop-change.change-index c.args.changes.now)) L) (sym c.reserve.ensures.placed) c.loop-change.invariant)
    c.apply_change.ensures.elements
