use Rattle.tp_list.proofs.Members.{In-slice_get}
use Rattle.tp_opid.specs.Tree.{IsThere, IsNew}
use Rattle.std.proofs.Common.{◌≡◌, ◌<◌, length, map, sym, ◌∙◌, subst}
use Rattle.std.proofs.lemmas.List.{length-map}
use Rattle.tp_elements.specs.Came.{element_at}
use Rattle.tp_posindex.specs.Layout.{concat_blocks, block_at}
use Rattle.tp_posindex.specs.BlockState.{BlockState}
use Rattle.tp_posindex.specs.Blocked.{pieces}
use Rattle.tp_posindex.proofs.Seeking.{none_placed, found_placed}
use Rattle.tp_posindex.proofs.Sequencing.{placed_is, block_at-map}
use Rattle.tp_posindex.proofs.sequence.BlockSequence.block_of.Goals as goal

pub returns-in_err-number : goal.returns-in_err-number
returns-in_err-number c =
    let s = c.self.inside in
    let none = (sym c.number_of.ensures ∙ c.in_err-number.was) in
    let new = none_placed s.elements.items (concat_blocks s.blocks.blocks) c.args.id.now c.self.invariant.numbered.below none in
    rw c.from_residual.ensures (subst (λ (v : BlockState). IsNew (concat_blocks v.blocks) c.args.id.now) c.self.view_is (subst (λ z. IsNew z c.args.id.now) (sym (placed_is s.elements.items s.blocks.blocks)) new))

pub returns : goal.returns
returns c =
    let s = c.self.inside in
    let bs = s.blocks.blocks in
    let p = c.spot_of.result.block in
    let found = (sym c.number_of.ensures ∙ c.in_ok-number.was) in
    let inside = In-slice_get (block_at bs p) c.spot_of.result.offset c.in_ok-number.number c.spot_of.ensures.at.at in
    let there = found_placed s.elements.items (block_at bs p) c.args.id.now c.in_ok-number.number inside found in
    let many : length (pieces s.elements.items bs) ≡ length bs = length-map bs (map (element_at s.elements.items)) in
    subst (λ (v : BlockState). (p < length v.blocks) × IsThere (block_at v.blocks p) c.args.id.now) c.self.view_is
    (subst (λ n. p < n) (sym many) c.spot_of.ensures.at.block, subst (λ z. IsThere z c.args.id.now) (sym (block_at-map (element_at s.elements.items) bs p)) there)
