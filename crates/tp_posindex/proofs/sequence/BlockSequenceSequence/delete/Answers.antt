use Rattle.tp_opid.specs.Tree.{IsThere}
use Rattle.std.proofs.Common.{◌≡◌, true, false, map, sym, ◌∙◌, ap, subst}
use Rattle.tp_rga.proofs.Lookups.{IsThere-not_new}
use Rattle.tp_elements.specs.Came.{element_at}
use Rattle.tp_posindex.specs.Layout.{concat_blocks}
use Rattle.tp_posindex.specs.Laid.{flag_of}
use Rattle.tp_posindex.specs.BlockState.{BlockState}
use Rattle.tp_posindex.proofs.Seeking.{none_placed}
use Rattle.tp_posindex.proofs.Sequencing.{placed_is, IsBlocked-delete, IsBlocked-delete_again}
use Rattle.tp_posindex.proofs.sequence.BlockSequenceSequence.delete.Goals as goal

pub overflow_sub-self : goal.overflow_sub-self
overflow_sub-self c =
    let s = c.self.inside in
    let E = s.elements.items in
    let bs = s.blocks.blocks in
    let there : IsThere (map (element_at E) (concat_blocks bs)) c.args.target = subst (λ z. IsThere z c.args.target) (sym (ap (λ (v : BlockState). concat_blocks v.blocks) c.self.view_is) ∙ placed_is E bs) c.requires in
    let found = (sym c.number_of.ensures ∙ c.in-Some.is) in
    let down : flag_of s.blocks.flags c.in-Some.number ≡ false = sym c.is_deleted.ensures ∙ c.if-not-is_deleted.true in
    let gone = IsBlocked-delete E bs s.blocks.flags s.deletes.items s.left c.in-Some.number c.args.target c.args.by c.self.invariant found down there in
    gone.0

pub invariant_of-self-then-not-is_deleted : goal.invariant_of-self-then-not-is_deleted
invariant_of-self-then-not-is_deleted c =
    let s = c.self.inside in
    let E = s.elements.items in
    let bs = s.blocks.blocks in
    let there : IsThere (map (element_at E) (concat_blocks bs)) c.args.target = subst (λ z. IsThere z c.args.target) (sym (ap (λ (v : BlockState). concat_blocks v.blocks) c.self.view_is) ∙ placed_is E bs) c.requires in
    let found = (sym c.number_of.ensures ∙ c.in-Some.is) in
    let down : flag_of s.blocks.flags c.in-Some.number ≡ false = sym c.is_deleted.ensures ∙ c.if-not-is_deleted.true in
    let gone = IsBlocked-delete E bs s.blocks.flags s.deletes.items s.left c.in-Some.number c.args.target c.args.by c.self.invariant found down there in
    rw (c.in_ok-push.ensures.items, c.hide.ensures.blocks, c.hide.ensures.flags) gone.1

pub invariant_of-self-else-not-is_deleted : goal.invariant_of-self-else-not-is_deleted
invariant_of-self-else-not-is_deleted c =
    let s = c.self.inside in
    let E = s.elements.items in
    let bs = s.blocks.blocks in
    let there : IsThere (map (element_at E) (concat_blocks bs)) c.args.target = subst (λ z. IsThere z c.args.target) (sym (ap (λ (v : BlockState). concat_blocks v.blocks) c.self.view_is) ∙ placed_is E bs) c.requires in
    let found = (sym c.number_of.ensures ∙ c.in-Some.is) in
    let up : flag_of s.blocks.flags c.in-Some.number ≡ true = sym c.is_deleted.ensures ∙ c.if-not-is_deleted.false in
    rw c.in_ok-push.ensures.items (IsBlocked-delete_again E bs s.blocks.flags s.deletes.items s.left c.in-Some.number c.args.target c.args.by c.self.invariant found up there)

pub invariant_of-self-in_default : goal.invariant_of-self-in_default
invariant_of-self-in_default c =
    let s = c.self.inside in
    let E = s.elements.items in
    let bs = s.blocks.blocks in
    let there : IsThere (map (element_at E) (concat_blocks bs)) c.args.target = subst (λ z. IsThere z c.args.target) (sym (ap (λ (v : BlockState). concat_blocks v.blocks) c.self.view_is) ∙ placed_is E bs) c.requires in
    let none = (sym c.number_of.ensures ∙ c.in_default.is) in
    absurd (IsThere-not_new (map (element_at E) (concat_blocks bs)) c.args.target there (none_placed E (concat_blocks bs) c.args.target c.self.invariant.numbered.below none))
