use Rattle.std.proofs.Common.{List, ◌≡◌, ◌+◌, ◌<◌, length, Some, IfSome, slice_get, sym, ap, ◌∙◌, subst, arith}
use Rattle.std.specs.Option.{option_map}
use Rattle.tp_opid.specs.Insert.{Insert}
use Rattle.tp_rga.specs.declared.walk.Seen.{Seen}
use Rattle.tp_rga.specs.Shown.{seen_of}
use Rattle.tp_elements.specs.Came.{element_at}
use Rattle.tp_posindex.specs.Layout.{concat_blocks, IsAfter}
use Rattle.tp_posindex.specs.BlockState.{BlockState}
use Rattle.tp_posindex.proofs.Sequencing.{seen_at_place, seen_past, noted_numbers, after_element}
use Rattle.tp_posindex.proofs.sequence.BlockSequenceSequence.next_element.Goals as goal

pub spot_from-requires : goal.spot_from-requires
spot_from-requires c =
    let s = c.self.inside in
    let walk = c.args.walk.now in
    noted_numbers s.elements.items s.blocks.blocks walk.spot walk.index
    (subst (λ (v : BlockState). IfSome walk.spot (λ at. IsAfter v.blocks at.block at.offset walk.index)) (sym c.self.view_is) c.requires)

pub overflow_add-walk : goal.overflow_add-walk
overflow_add-walk c = omega (arith, c.number_at-number.ensures.fits, c.in-Some.ensures.found.2)

pub returns-in-Some-clause-seen : goal.returns-in-Some-clause-seen
returns-in-Some-clause-seen c =
    let s = c.self.inside in
    let at = c.in-Some.ensures.found in
    let k = c.number_at-number.result in
    let within : k < length s.elements.items = omega (arith, c.number_at-number.ensures.below, c.self.invariant.matched) in
    let there = seen_at_place s.elements.items s.blocks.blocks s.blocks.flags s.deletes.items s.left c.in-Some.spot.block c.in-Some.spot.offset k c.args.walk.now.index c.is_deleted-deleted.result c.self.invariant at.0 at.1 at.2 c.number_at-number.ensures.number within c.is_deleted-deleted.ensures in
    let id = c.id.ensures ∙ ap (λ (z : List Insert). (element_at z k).id) c.entries-entries.ensures in
    let ch = c.ch.ensures ∙ ap (λ (z : List Insert). (element_at z k).ch) c.entries-entries.ensures in
    let is : Some (let e : Seen = record { id = c.id.result; ch = c.ch.result; deleted = c.is_deleted-deleted.result } in e) ≡ Some (record { id = (element_at s.elements.items k).id; ch = (element_at s.elements.items k).ch; deleted = c.is_deleted-deleted.result }) = cc in
    is ∙ sym there ∙ ap (λ (v : BlockState). option_map (seen_of v.removals) (slice_get (concat_blocks v.blocks) c.args.walk.now.index)) c.self.view_is

pub returns-in-Some-clause-spot : goal.returns-in-Some-clause-spot
returns-in-Some-clause-spot c =
    let s = c.self.inside in
    let at = c.in-Some.ensures.found in
    let spot = c.in-Some.spot in
    subst (λ (v : BlockState). IsAfter v.blocks spot.block (spot.offset + 1) (c.args.walk.now.index + 1)) c.self.view_is
    (after_element s.elements.items s.blocks.blocks spot.block spot.offset c.args.walk.now.index at.0 at.1 at.2)

pub returns-in-None-clause-seen : goal.returns-in-None-clause-seen
returns-in-None-clause-seen c =
    let s = c.self.inside in
    sym (seen_past s.elements.items s.blocks.blocks s.deletes.items c.args.walk.now.index c.in-None.ensures.none)
    ∙ ap (λ (v : BlockState). option_map (seen_of v.removals) (slice_get (concat_blocks v.blocks) c.args.walk.now.index)) c.self.view_is
