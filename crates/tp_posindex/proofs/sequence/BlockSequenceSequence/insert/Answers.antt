use Rattle.tp_opid.specs.Tree.{IsNew, CanInsert}
use Rattle.std.proofs.Common.{◌+◌, ◌≡◌, ℕ, List, Bool, [], ◌∷◌, ◌++◌, false, length, map, insert, sym, ◌∙◌, ap, subst, arith, length-append}
use Rattle.std.proofs.lemmas.List.{length-map}
use Rattle.tp_opid.specs.Insert.{Insert}
use Rattle.tp_rga.specs.Order.{IsInserted}
use Rattle.tp_rga.proofs.PlainStates.{IsPlainState-left}
use Rattle.tp_elements.specs.Came.{element_at}
use Rattle.tp_elements.specs.Entered.{place_of_reference}
use Rattle.tp_posindex.specs.Layout.{concat_blocks, index_at}
use Rattle.tp_posindex.specs.Laid.{flags_of}
use Rattle.tp_posindex.specs.BlockState.{BlockState}
use Rattle.tp_opid.specs.declared.op_id.Place.{Place}
use Rattle.tp_posindex.specs.Blocked.{pieces}
use Rattle.tp_posindex.proofs.Sequencing.{pushed_is, placed_is, placed_insert, IsBlocked-insert}
use Rattle.tp_posindex.proofs.Seeking.{reference_there}
use Rattle.tp_posindex.proofs.sequence.BlockSequenceSequence.insert.Goals as goal

pub spot_for-spot-requires-clause-can : goal.spot_for-spot-requires-clause-can
spot_for-spot-requires-clause-can c =
    let s = c.self.inside in
    let E = s.elements.items in
    let bs = s.blocks.blocks in
    let placed : List Insert = map (element_at E) (concat_blocks bs) in
    let seen : concat_blocks c.args.self.now.blocks ≡ placed = sym (ap (λ (v : BlockState). concat_blocks v.blocks) c.self.view_is) ∙ placed_is E bs in
    subst (λ (F : List Insert). CanInsert (map (element_at F) (concat_blocks c.reserve-2.new.self.blocks)) c.args.id (place_of_reference F c.reference_of-reference.result)) (sym c.entries.ensures) (subst (λ (p : Place). CanInsert (map (element_at c.reserve.new.self.items) (concat_blocks c.reserve-2.new.self.blocks)) c.args.id p) (sym c.reference_of-reference.ensures.place) (rw (c.reserve.ensures.items, c.reserve-2.ensures.blocks) (subst (λ z. CanInsert z c.args.id c.args.after) seen c.requires)))

pub reference_of-reference-requires : goal.reference_of-reference-requires
reference_of-reference-requires c =
    let s = c.self.inside in
    let E = s.elements.items in
    let bs = s.blocks.blocks in
    let placed : List Insert = map (element_at E) (concat_blocks bs) in
    let seen : concat_blocks c.args.self.now.blocks ≡ placed = sym (ap (λ (v : BlockState). concat_blocks v.blocks) c.self.view_is) ∙ placed_is E bs in
    rw c.reserve.ensures.items (reference_there E (concat_blocks bs) c.args.id c.args.after c.self.invariant.numbered.below (subst (λ z. CanInsert z c.args.id c.args.after) seen c.requires))

pub overflow_add-self : goal.overflow_add-self
overflow_add-self c =
    let s = c.self.inside in
    let E = s.elements.items in
    let bs = s.blocks.blocks in
    let placed : List Insert = map (element_at E) (concat_blocks bs) in
    let seen : concat_blocks c.args.self.now.blocks ≡ placed = sym (ap (λ (v : BlockState). concat_blocks v.blocks) c.self.view_is) ∙ placed_is E bs in
    let le = IsPlainState-left placed (flags_of s.blocks.flags (concat_blocks bs)) s.deletes.items s.left c.self.invariant.kept in
    let size = length-map (concat_blocks bs) (element_at E) in
    let many = c.self.invariant.numbered.many in
    let x : Insert = record { id = c.args.id; after = c.args.after; ch = c.args.ch } in
    let more : length c.push.new.self.items ≡ length E + 1 = ap (λ (z : List Insert). length z) (pushed_is c.reserve.new.self.items E c.args.id c.args.after c.reference_of-reference.result c.args.ch c.push.new.self.items c.reserve.ensures.items c.reference_of-reference.ensures.place c.push.ensures.items) ∙ length-append E (x ∷ []) in
    omega (arith, le, size, many, more, c.push.ensures.fits)

pub invariant_of-self-2 : goal.invariant_of-self-2
invariant_of-self-2 c =
    let s = c.self.inside in
    let E = s.elements.items in
    let bs = s.blocks.blocks in
    let placed : List Insert = map (element_at E) (concat_blocks bs) in
    let seen : concat_blocks c.args.self.now.blocks ≡ placed = sym (ap (λ (v : BlockState). concat_blocks v.blocks) c.self.view_is) ∙ placed_is E bs in
    let x : Insert = record { id = c.args.id; after = c.args.after; ch = c.args.ch } in
    let G = index_at c.reserve-2.new.self.blocks c.spot_for-spot.result.block c.spot_for-spot.result.offset in
    let items_is : c.push.new.self.items ≡ E ++ x ∷ [] = pushed_is c.reserve.new.self.items E c.args.id c.args.after c.reference_of-reference.result c.args.ch c.push.new.self.items c.reserve.ensures.items c.reference_of-reference.ensures.place c.push.ensures.items in
    let whole : concat_blocks c.put.new.self.blocks ≡ insert (concat_blocks bs) G (length s.blocks.flags) =
    c.put.ensures.joined ∙ ap (λ (z : List (List ℕ)). insert (concat_blocks z) G (length c.reserve-2.new.self.flags)) c.reserve-2.ensures.blocks ∙ ap (λ (z : List Bool). insert (concat_blocks bs) G (length z)) c.reserve-2.ensures.flags in
    let new : IsNew placed c.args.id = subst (λ z. IsNew z c.args.id) seen c.requires.new in
    let flags_is : c.put.new.self.flags ≡ s.blocks.flags ++ false ∷ [] = c.put.ensures.flags ∙ ap (λ (z : List Bool). z ++ false ∷ []) c.reserve-2.ensures.flags in
    rw (items_is, flags_is) (IsBlocked-insert E bs c.put.new.self.blocks s.blocks.flags s.deletes.items s.left G x c.self.invariant whole new)

pub returns-clause-ok : goal.returns-clause-ok
returns-clause-ok c =
    let s = c.self.inside in
    let E = s.elements.items in
    let bs = s.blocks.blocks in
    let placed : List Insert = map (element_at E) (concat_blocks bs) in
    let seen : concat_blocks c.args.self.now.blocks ≡ placed = sym (ap (λ (v : BlockState). concat_blocks v.blocks) c.self.view_is) ∙ placed_is E bs in
    let x : Insert = record { id = c.args.id; after = c.args.after; ch = c.args.ch } in
    let G = index_at c.reserve-2.new.self.blocks c.spot_for-spot.result.block c.spot_for-spot.result.offset in
    let items_is : c.push.new.self.items ≡ E ++ x ∷ [] = pushed_is c.reserve.new.self.items E c.args.id c.args.after c.reference_of-reference.result c.args.ch c.push.new.self.items c.reserve.ensures.items c.reference_of-reference.ensures.place c.push.ensures.items in
    let whole : concat_blocks c.put.new.self.blocks ≡ insert (concat_blocks bs) G (length s.blocks.flags) =
    c.put.ensures.joined ∙ ap (λ (z : List (List ℕ)). insert (concat_blocks z) G (length c.reserve-2.new.self.flags)) c.reserve-2.ensures.blocks ∙ ap (λ (z : List Bool). insert (concat_blocks bs) G (length z)) c.reserve-2.ensures.flags in
    let r = c.reference_of-reference.result in
    let B = c.reserve-2.new.self.blocks in
    let same : c.entries.result.now.items ≡ E = c.entries.ensures ∙ c.reserve.ensures.items in
    let place : place_of_reference E r ≡ c.args.after = ap (λ (z : List Insert). place_of_reference z r) (sym c.reserve.ensures.items) ∙ c.reference_of-reference.ensures.place in
    let among_these = subst (λ (F : List Insert). let y : Insert = record { id = c.args.id; after = place_of_reference F r; ch = c.args.ch } in IsInserted (map (element_at F) (concat_blocks B)) (insert (map (element_at F) (concat_blocks B)) G y) y) same (c.spot_for-spot.ensures.order c.args.ch) in
    let after_that = subst (λ (p : Place). let y : Insert = record { id = c.args.id; after = p; ch = c.args.ch } in IsInserted (map (element_at E) (concat_blocks B)) (insert (map (element_at E) (concat_blocks B)) G y) y) place among_these in
    let order = subst (λ (z : List (List ℕ)). IsInserted (map (element_at E) (concat_blocks z)) (insert (map (element_at E) (concat_blocks z)) G x) x) c.reserve-2.ensures.blocks after_that in
    let new_is : concat_blocks (pieces c.push.new.self.items c.put.new.self.blocks) ≡ insert placed G x =
    placed_is c.push.new.self.items c.put.new.self.blocks
    ∙ ap (λ (z : List Insert). map (element_at z) (concat_blocks c.put.new.self.blocks)) items_is
    ∙ ap (λ (z : List ℕ). map (element_at (E ++ x ∷ [])) z) whole
    ∙ placed_insert E (concat_blocks bs) G (length s.blocks.flags) x c.self.invariant.numbered.below c.self.invariant.matched in
    subst (λ z. IsInserted z (concat_blocks (pieces c.push.new.self.items c.put.new.self.blocks)) x) (sym seen) (subst (λ z. IsInserted placed z x) (sym new_is) order)
