use Rattle.tp_opid.specs.Tree.{IsThere}
use Rattle.std.proofs.Common.{◌≡◌, true, sym, subst}
use Rattle.std.specs.Option.{is_some}
use Rattle.tp_posindex.specs.Layout.{concat_blocks}
use Rattle.tp_posindex.specs.BlockState.{BlockState}
use Rattle.tp_posindex.proofs.Sequencing.{there_test}
use Rattle.tp_posindex.proofs.sequence.BlockSequenceSequence.contains.Goals as goal

pub returns : goal.returns
returns c =
    let s = c.self.inside in
    let looked = (sym c.number_of.ensures) in
    rw c.is_some.ensures (subst (λ (v : BlockState). (is_some c.number_of.result ≡ true → IsThere (concat_blocks v.blocks) c.args.id.now) × (IsThere (concat_blocks v.blocks) c.args.id.now → is_some c.number_of.result ≡ true)) c.self.view_is (there_test s.elements.items s.blocks.blocks c.args.id.now c.number_of.result c.self.invariant.numbered looked))
