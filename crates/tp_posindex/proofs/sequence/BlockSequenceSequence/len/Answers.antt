use Rattle.std.proofs.Common.{length, sym, ◌∙◌, ap}
use Rattle.tp_rga.specs.Shown.{visible_of}
use Rattle.tp_posindex.specs.Layout.{concat_blocks}
use Rattle.tp_posindex.specs.BlockState.{BlockState}
use Rattle.tp_posindex.proofs.Sequencing.{placed_is}
use Rattle.tp_posindex.proofs.sequence.BlockSequenceSequence.len.Goals as goal

pub returns : goal.returns
returns c =
    let s = c.self.inside in
    c.self.invariant.kept.counted ∙ ap (λ z. length (visible_of s.deletes.items z)) (sym (placed_is s.elements.items s.blocks.blocks)) ∙ ap (λ (v : BlockState). length (visible_of v.removals (concat_blocks v.blocks))) c.self.view_is
