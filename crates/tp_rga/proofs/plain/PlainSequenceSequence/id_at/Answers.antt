use Rattle.std.proofs.Common.{Some, slice_get, sym, ap, ◌∙◌}
use Rattle.std.specs.Option.{option_map}
use Rattle.tp_opid.specs.Insert.{Insert}
use Rattle.tp_rga.specs.State.{State}
use Rattle.tp_rga.specs.Shown.{visible_of}
use Rattle.tp_rga.proofs.PlainStates.{visible_of-found, visible_of-past}
use Rattle.tp_rga.proofs.plain.PlainSequenceSequence.id_at.Goals as goal

pub returns-in-Some : goal.returns-in-Some
returns-in-Some c =
    let s = c.self.inside in
    let found = rw c.deref.ensures.value at c.in-Some.ensures in
    let there = visible_of-found s.elements.items s.deleted.items s.deletes.items s.left c.in-Some.k c.args.i c.index-e.result.now c.self.invariant found.0 found.1 c.index-e.ensures in
    ap (λ (w : Insert). Some w.id) c.e.view_is ∙ sym (ap (option_map (λ (w : Insert). w.id)) there) ∙ ap (λ (v : State). option_map (λ (w : Insert). w.id) (slice_get (visible_of v.removals v.placed) c.args.i)) c.self.view_is

pub returns-in-None : goal.returns-in-None
returns-in-None c =
    let s = c.self.inside in
    let past = rw c.deref.ensures.value at c.in-None.ensures in
    let there = visible_of-past s.elements.items s.deleted.items s.deletes.items s.left c.args.i c.self.invariant past in
    sym (ap (option_map (λ (w : Insert). w.id)) there) ∙ ap (λ (v : State). option_map (λ (w : Insert). w.id) (slice_get (visible_of v.removals v.placed) c.args.i)) c.self.view_is
