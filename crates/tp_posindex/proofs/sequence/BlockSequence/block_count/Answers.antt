use Rattle.std.proofs.Common.{subst}
use Rattle.tp_elements.specs.Came.{element_at}
use Rattle.tp_posindex.specs.Layout.{AreSized}
use Rattle.tp_posindex.specs.BlockState.{BlockState}
use Rattle.tp_posindex.proofs.Sequencing.{AreSized-map}
use Rattle.tp_posindex.proofs.sequence.BlockSequence.block_count.Goals as goal

pub returns-clause-sized : goal.returns-clause-sized
returns-clause-sized c =
    let s = c.self.inside in
    subst (λ (v : BlockState). AreSized v.blocks) c.self.view_is (AreSized-map (element_at s.elements.items) s.blocks.blocks c.count.ensures.sized)
