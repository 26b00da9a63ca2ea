use Rattle.std.proofs.Common.{sym, ap, ◌∙◌}
use Rattle.tp_rga.specs.Shown.{visible_before}
use Rattle.tp_posindex.specs.Layout.{concat_blocks}
use Rattle.tp_posindex.specs.BlockState.{BlockState}
use Rattle.tp_posindex.proofs.Sequencing.{position_shown, position_none}
use Rattle.tp_posindex.proofs.sequence.BlockSequenceSequence.position.Goals as goal

pub returns-in-Some : goal.returns-in-Some
returns-in-Some c =
    let s = c.self.inside in
    let found = (sym c.number_of.ensures ∙ c.in-Some.is) in
    sym (position_shown s.elements.items s.blocks.blocks s.blocks.flags s.deletes.items s.left c.spot_of.result.block c.spot_of.result.offset c.in-Some.number c.visible_before.result c.args.id.now c.self.invariant c.spot_of.ensures.at found c.visible_before.ensures)
    ∙ ap (λ (v : BlockState). visible_before v.removals (concat_blocks v.blocks) c.args.id.now) c.self.view_is

pub returns-in-None : goal.returns-in-None
returns-in-None c =
    let s = c.self.inside in
    let none = (sym c.number_of.ensures ∙ c.in-None.is) in
    sym (position_none s.elements.items s.blocks.blocks s.blocks.flags s.deletes.items s.left c.args.id.now c.self.invariant none)
    ∙ ap (λ (v : BlockState). visible_before v.removals (concat_blocks v.blocks) c.args.id.now) c.self.view_is
