use Rattle.std.proofs.Common.{Some, sym, ap, ◌∙◌}
use Rattle.tp_rga.specs.State.{State}
use Rattle.tp_rga.specs.Shown.{visible_before}
use Rattle.tp_rga.proofs.PlainStates.{visible_of-before, visible_before-found}
use Rattle.tp_rga.proofs.plain.PlainSequenceSequence.position.Goals as goal

pub returns-in-Some : goal.returns-in-Some
returns-in-Some c =
    let s = c.self.inside in
    let count = rw c.deref-in-Some.ensures.value at c.count_left.ensures in
    let here = rw c.deref.ensures.value at (sym c.index_of.ensures ∙ c.in-Some.is) in
    ap Some (count ∙ visible_of-before s.elements.items s.deleted.items s.deletes.items s.left c.in-Some.k c.self.invariant)
    ∙ sym (visible_before-found s.deletes.items s.elements.items c.args.id.now c.in-Some.k here)
    ∙ ap (λ (v : State). visible_before v.removals v.placed c.args.id.now) c.self.view_is
