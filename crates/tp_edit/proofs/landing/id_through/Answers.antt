use Rattle.std.proofs.Common.{◌∙◌}
use Rattle.tp_rga.specs.Shown.{visible_of}
use Rattle.tp_edit.specs.EditRecords.{ids_of}
use Rattle.tp_edit.proofs.EdgeLaws.{was_after}
use Rattle.tp_edit.proofs.landing.id_through.Goals as goal

pub visible_id-requires-then-edge-position-clause-there : goal.visible_id-requires-then-edge-position-clause-there
visible_id-requires-then-edge-position-clause-there g c =
    let V = ids_of (visible_of (g.S.Sequence.removals c.args.sequence.now) (g.S.Sequence.placed c.args.sequence.now)) in
    (was_after c.args.actor V c.args.landings.now.done.items c.args.landings.now.edge c.args.position c.requires.landings.edge c.if-edge-position.true c.requires.there).0

pub returns-then-edge-position : goal.returns-then-edge-position
returns-then-edge-position g c =
    let V = ids_of (visible_of (g.S.Sequence.removals c.args.sequence.now) (g.S.Sequence.placed c.args.sequence.now)) in
    (was_after c.args.actor V c.args.landings.now.done.items c.args.landings.now.edge c.args.position c.requires.landings.edge c.if-edge-position.true c.requires.there).1
    ∙ c.visible_id-then-edge-position.ensures
