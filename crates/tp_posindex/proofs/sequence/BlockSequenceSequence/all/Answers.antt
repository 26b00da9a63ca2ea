use Rattle.std.proofs.Common.{◌≡◌, length, sym, ◌∙◌, ap, arith}
use Rattle.std.proofs.lemmas.List.{length-map}
use Rattle.tp_elements.specs.Came.{element_at}
use Rattle.tp_posindex.specs.Layout.{concat_blocks}
use Rattle.tp_posindex.specs.BlockState.{BlockState}
use Rattle.tp_posindex.proofs.Sequencing.{placed_is}
use Rattle.tp_posindex.proofs.sequence.BlockSequenceSequence.all.Goals as goal

pub returns : goal.returns
returns c =
    let s = c.self.inside in
    let many : c.len.result ≡ length (concat_blocks s.blocks.blocks) = omega (arith, c.len.ensures, c.self.invariant.numbered.many) in
    many ∙ sym (length-map (concat_blocks s.blocks.blocks) (element_at s.elements.items)) ∙ ap length (sym (placed_is s.elements.items s.blocks.blocks)) ∙ ap (λ (v : BlockState). length (concat_blocks v.blocks)) c.self.view_is
