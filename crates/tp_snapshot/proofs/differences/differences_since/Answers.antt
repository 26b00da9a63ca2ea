use Rattle.tp_snapshot.proofs.Common.{past}
use Rattle.tp_snapshot.proofs.VisibleLaws.{are_of, since_is, since_leads}
use Rattle.tp_snapshot.proofs.differences.differences_since.Goals as goal

pub returns-clause-each : goal.returns-clause-each
returns-clause-each g c =
    let S = g.S.Sequence in
    let C = c.args.graph.now.applied in
    let L = S.placed c.args.sequence.now in
    let H = c.args.heads.now in
    let ds = c.in_ok-found.found.items in
    are_of C (past C H) C L ds c.requires.order
    (since_is C L (S.removals c.args.sequence.now) H c.in_ok-old.old c.in_ok-clock.clock c.in_ok-reach.reach c.window-window.result ds c.requires
    c.in_ok-old.ensures.clock c.in_ok-clock.ensures.clock c.in_ok-reach.ensures.has c.window-window.ensures.window c.window-window.ensures.has c.in_ok-found.ensures)

pub returns-clause-leads : goal.returns-clause-leads
returns-clause-leads g c =
    let S = g.S.Sequence in
    let C = c.args.graph.now.applied in
    let L = S.placed c.args.sequence.now in
    let H = c.args.heads.now in
    let ds = c.in_ok-found.found.items in
    since_leads C L (S.removals c.args.sequence.now) H c.in_ok-clock.clock ds c.requires c.in_ok-clock.ensures.clock
    (since_is C L (S.removals c.args.sequence.now) H c.in_ok-old.old c.in_ok-clock.clock c.in_ok-reach.reach c.window-window.result ds c.requires
    c.in_ok-old.ensures.clock c.in_ok-clock.ensures.clock c.in_ok-reach.ensures.has c.window-window.ensures.window c.window-window.ensures.has c.in_ok-found.ensures)
