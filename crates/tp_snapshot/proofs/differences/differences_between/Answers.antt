use Rattle.tp_snapshot.proofs.Common.{past}
use Rattle.tp_snapshot.proofs.VisibleLaws.{are_of, between_is, between_leads}
use Rattle.tp_snapshot.proofs.differences.differences_between.Goals as goal

pub returns-clause-each : goal.returns-clause-each
returns-clause-each g c =
    let S = g.S.Sequence in
    let C = c.args.graph.now.applied in
    let L = S.placed c.args.sequence.now in
    let H = c.args.from.now in
    let G = c.args.to.now in
    let ds = c.in_ok-found.found.items in
    are_of C (past C H) (past C G) L ds c.requires.order
    (between_is C L (S.removals c.args.sequence.now) H G c.in_ok-old.old c.in_ok-new.new c.in_ok-old_clock.old_clock c.in_ok-new_clock.new_clock c.in_ok-near.near c.in_ok-reach.reach c.window-window.result ds c.requires
    c.in_ok-old.ensures.clock c.in_ok-old_clock.ensures.clock c.in_ok-new.ensures.clock c.in_ok-new_clock.ensures.clock c.in_ok-near.ensures.has c.in_ok-reach.ensures.keeps c.in_ok-reach.ensures.has
    c.window-window.ensures.window c.window-window.ensures.has c.in_ok-found.ensures)

pub returns-clause-leads : goal.returns-clause-leads
returns-clause-leads g c =
    let S = g.S.Sequence in
    let C = c.args.graph.now.applied in
    let L = S.placed c.args.sequence.now in
    let H = c.args.from.now in
    let G = c.args.to.now in
    let ds = c.in_ok-found.found.items in
    between_leads C L (S.removals c.args.sequence.now) H G c.in_ok-old_clock.old_clock c.in_ok-new_clock.new_clock ds c.requires c.in_ok-old_clock.ensures.clock c.in_ok-new_clock.ensures.clock
    (between_is C L (S.removals c.args.sequence.now) H G c.in_ok-old.old c.in_ok-new.new c.in_ok-old_clock.old_clock c.in_ok-new_clock.new_clock c.in_ok-near.near c.in_ok-reach.reach c.window-window.result ds c.requires
    c.in_ok-old.ensures.clock c.in_ok-old_clock.ensures.clock c.in_ok-new.ensures.clock c.in_ok-new_clock.ensures.clock c.in_ok-near.ensures.has c.in_ok-reach.ensures.keeps c.in_ok-reach.ensures.has
    c.window-window.ensures.window c.window-window.ensures.has c.in_ok-found.ensures)
