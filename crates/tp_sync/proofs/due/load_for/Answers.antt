use Rattle.tp_sync.proofs.Common.{◌∙◌, ap, map, inl, sym, SyncParts}
use Rattle.tp_sync.proofs.LoadLaws.{CarriesNone, carries_none}
use Rattle.tp_sync.proofs.due.load_for.Goals as goal

pub returns-then-is_even-clause-changes : goal.returns-then-is_even-clause-changes
returns-then-is_even-clause-changes c =
    let n : CarriesNone c.args.graph.now.applied c.args.state.now = carries_none c.args.graph.now.applied c.args.state.now (c.is_even.ensures.0 c.if-is_even.true).none in
    ap (map (λ c. c.now)) c.nothing.ensures.changes ∙ n.none

pub returns-then-is_even-clause-next : goal.returns-then-is_even-clause-next
returns-then-is_even-clause-next c =
    let n : CarriesNone c.args.graph.now.applied c.args.state.now = carries_none c.args.graph.now.applied c.args.state.now (c.is_even.ensures.0 c.if-is_even.true).none in
    inl (sym n.none, c.nothing.ensures.next ∙ ap (λ (t : SyncParts). t.next) c.state.view_is)
