use Rattle.std.proofs.Common.{List, ◌<◌, length, Some, slice_get, sym, ap, ◌∙◌, arith}
use Rattle.std.specs.Option.{option_map}
use Rattle.tp_opid.specs.Insert.{Insert}
use Rattle.tp_rga.specs.declared.element.Element.{Element}
use Rattle.tp_rga.specs.Shown.{element_of}
use Rattle.tp_elements.specs.Came.{blank, element_at}
use Rattle.tp_elements.proofs.Lists.{get_or-any}
use Rattle.tp_posindex.specs.Layout.{concat_blocks}
use Rattle.tp_posindex.specs.BlockState.{BlockState}
use Rattle.tp_posindex.proofs.Sequencing.{element_at_place, element_past}
use Rattle.tp_posindex.proofs.sequence.BlockSequenceSequence.element.Goals as goal

pub returns-in-Some : goal.returns-in-Some
returns-in-Some c =
    let s = c.self.inside in
    let bs = s.blocks.blocks in
    let at = c.in-Some.ensures.found in
    let k = c.number_at-number.result in
    let within : k < length s.elements.items = omega (arith, c.number_at-number.ensures.below, c.self.invariant.matched) in
    let x = element_at s.elements.items k in
    let there = element_at_place s.elements.items bs s.blocks.flags s.deletes.items s.left c.in-Some.spot.block c.in-Some.spot.offset k c.args.i x c.is_deleted.result c.self.invariant at.0 at.1 at.2 c.number_at-number.ensures.number (get_or-any s.elements.items k blank x within) c.is_deleted.ensures in
    ap (λ (w : Insert). Some (let e : Element = record { id = w.id; after = w.after; ch = w.ch; deleted = c.is_deleted.result } in e)) (c.e.view_is ∙ c.get-e.ensures ∙ ap (λ (z : List Insert). element_at z k) c.entries.ensures)
    ∙ sym there
    ∙ ap (λ (v : BlockState). option_map (element_of v.removals) (slice_get (concat_blocks v.blocks) c.args.i)) c.self.view_is

pub returns-in-None : goal.returns-in-None
returns-in-None c =
    let s = c.self.inside in
    sym (element_past s.elements.items s.blocks.blocks s.deletes.items c.args.i c.in-None.ensures.none)
    ∙ ap (λ (v : BlockState). option_map (element_of v.removals) (slice_get (concat_blocks v.blocks) c.args.i)) c.self.view_is
