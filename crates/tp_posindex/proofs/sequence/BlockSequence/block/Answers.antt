use Rattle.std.proofs.Common.{◌<◌, length, sym, ◌∙◌, ap, subst, arith}
use Rattle.std.proofs.lemmas.List.{length-map}
use Rattle.tp_elements.specs.Came.{element_at}
use Rattle.tp_posindex.specs.Layout.{block_at}
use Rattle.tp_posindex.specs.BlockState.{BlockState, IsInfoOf}
use Rattle.tp_posindex.proofs.Sequencing.{block_at-map, index_at-map, block_shown}
use Rattle.tp_posindex.proofs.sequence.BlockSequence.block.Goals as goal

pub returns : goal.returns
returns c =
    let s = c.self.inside in
    let E = s.elements.items in
    let bs = s.blocks.blocks in
    let lt : c.args.i < length bs = omega (arith, c.count.ensures.count, c.if-i-count.false) in
    subst (λ (v : BlockState). IsInfoOf v c.args.i (record { first = c.first_of.result; len = length c.block.result.now; visible = c.visible.result })) c.self.view_is (record {
      first = c.first_of.ensures ∙ sym (index_at-map (element_at E) bs c.args.i 0);
      len = ap length c.block.ensures.value ∙ sym (length-map (block_at bs c.args.i) (element_at E)) ∙ ap length (sym (block_at-map (element_at E) bs c.args.i));
      visible = c.visible.ensures ∙ block_shown E bs s.blocks.flags s.deletes.items s.left c.args.i c.self.invariant lt;
    })
