use Rattle.tp_graph.proofs.Common.{◌≡◌, ◌<◌, ◌∙◌, false, sym, ap, subst, length, has, most_changes, AncestryState}
use Rattle.tp_history.proofs.CauseLaws.{Fits-from_cause, room_for_one}
use Rattle.tp_graph.proofs.applied.Applied.reserve_after.Goals as goal

pub reserve-requires-2-clause-few : goal.reserve-requires-2-clause-few
reserve-requires-2-clause-few c =
    subst (λ (s : AncestryState). length s.changes < most_changes) (sym c.self.view_is)
    (room_for_one c.args.self.now.changes c.args.change.now c.requires.enters c.changes-changes.ensures.few)

pub reserve-requires-2-clause-lacks : goal.reserve-requires-2-clause-lacks
reserve-requires-2-clause-lacks c =
    let C = c.args.self.now.changes in
    subst (λ (s : AncestryState). has s.changes c.hash.result ≡ false) (sym c.self.view_is)
    (ap (has C) c.hash.ensures.hash ∙ (Fits-from_cause C c.args.change.now c.requires.enters).new)
