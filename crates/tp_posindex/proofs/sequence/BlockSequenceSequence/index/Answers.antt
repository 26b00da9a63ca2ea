use Rattle.std.proofs.Common.{◌+◌, sym, ap, ◌∙◌}
use Rattle.tp_rga.specs.Shown.{index_in}
use Rattle.tp_posindex.specs.Layout.{concat_blocks}
use Rattle.tp_posindex.specs.BlockState.{BlockState}
use Rattle.tp_posindex.proofs.Sequencing.{index_found, index_none, index_from_first}
use Rattle.tp_posindex.proofs.sequence.BlockSequenceSequence.index.Goals as goal

pub returns-in-Some : goal.returns-in-Some
returns-in-Some c =
    let s = c.self.inside in
    let found = (sym c.number_of.ensures ∙ c.in-Some.is) in
    sym (index_found s.elements.items s.blocks.blocks s.blocks.flags s.deletes.items s.left c.spot_of-spot.result.block c.spot_of-spot.result.offset c.in-Some.number (c.first_of.result + c.spot_of-spot.result.offset) c.args.id.now c.self.invariant c.spot_of-spot.ensures.at found
    (index_from_first s.blocks.blocks c.spot_of-spot.result.block c.spot_of-spot.result.offset c.first_of.result c.first_of.ensures))
    ∙ ap (λ (v : BlockState). index_in (concat_blocks v.blocks) c.args.id.now) c.self.view_is

pub returns-in-None : goal.returns-in-None
returns-in-None c =
    let s = c.self.inside in
    let none = (sym c.number_of.ensures ∙ c.in-None.is) in
    sym (index_none s.elements.items s.blocks.blocks s.blocks.flags s.deletes.items s.left c.args.id.now c.self.invariant none)
    ∙ ap (λ (v : BlockState). index_in (concat_blocks v.blocks) c.args.id.now) c.self.view_is
