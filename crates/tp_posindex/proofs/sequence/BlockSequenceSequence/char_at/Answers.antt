use Rattle.std.proofs.Common.{List, ◌≡◌, ◌<◌, length, Some, slice_get, get_or, sym, ap, ◌∙◌, arith}
use Rattle.std.specs.Option.{option_map}
use Rattle.tp_opid.specs.Insert.{Insert}
use Rattle.tp_rga.specs.Shown.{visible_of}
use Rattle.tp_elements.specs.Came.{blank, element_at}
use Rattle.tp_elements.proofs.Lists.{get_or-any}
use Rattle.tp_posindex.specs.Layout.{concat_blocks, block_at}
use Rattle.tp_posindex.specs.BlockState.{BlockState}
use Rattle.tp_posindex.proofs.Sequencing.{shown_at, shown_past}
use Rattle.tp_posindex.proofs.sequence.BlockSequenceSequence.char_at.Goals as goal

pub returns-in-Some : goal.returns-in-Some
returns-in-Some c =
    let s = c.self.inside in
    let bs = s.blocks.blocks in
    let at = c.in-Some.ensures.found in
    let within : c.number_at-number.result < length s.elements.items = omega (arith, c.number_at-number.ensures.below, c.self.invariant.matched) in
    let k = c.number_at-number.result in
    let x = element_at s.elements.items k in
    let read : x ≡ get_or s.elements.items (get_or (block_at bs c.in-Some.spot.block) c.in-Some.spot.offset 0) x = get_or-any s.elements.items k blank x within ∙ ap (λ n. get_or s.elements.items n x) c.number_at-number.ensures.number in
    let there = shown_at s.elements.items bs s.blocks.flags s.deletes.items s.left c.in-Some.spot.block c.in-Some.spot.offset c.args.i x c.self.invariant at.0 at.1 at.2 at.3 read in
    ap Some (c.ch.ensures ∙ ap (λ (z : List Insert). (element_at z k).ch) c.entries.ensures) ∙ sym (ap (option_map (λ (w : Insert). w.ch)) there) ∙ ap (λ (v : BlockState). option_map (λ (w : Insert). w.ch) (slice_get (visible_of v.removals (concat_blocks v.blocks)) c.args.i)) c.self.view_is

pub returns-in-None : goal.returns-in-None
returns-in-None c =
    let s = c.self.inside in
    let there = shown_past s.elements.items s.blocks.blocks s.blocks.flags s.deletes.items s.left c.args.i c.self.invariant c.in-None.ensures.none in
    sym (ap (option_map (λ (w : Insert). w.ch)) there) ∙ ap (λ (v : BlockState). option_map (λ (w : Insert). w.ch) (slice_get (visible_of v.removals (concat_blocks v.blocks)) c.args.i)) c.self.view_is
