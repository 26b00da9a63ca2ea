use Rattle.std.proofs.Common.{sym, ◌∙◌, subst}
use Rattle.tp_opid.specs.Tree.{IsThere}
use Rattle.tp_rga.specs.State.{State}
use Rattle.tp_rga.proofs.Lookups.{IsFirst-position, IsThere-not_new}
use Rattle.tp_rga.proofs.PlainStates.{IsPlainState-delete, IsPlainState-delete_again}
use Rattle.tp_rga.proofs.plain.PlainSequenceSequence.delete.Goals as goal

pub overflow_sub-self : goal.overflow_sub-self
overflow_sub-self c =
    let s = c.self.inside in
    let here = rw c.deref.ensures.value at (sym c.index_of.ensures ∙ c.in-Some.is) in
    let found = IsFirst-position s.elements.items c.args.target _ here in
    let there = subst (λ (v : State). IsThere v.placed c.args.target) (sym c.self.view_is) c.requires in
    (IsPlainState-delete s.elements.items s.deleted.items s.deletes.items s.left c.args.target c.args.by c.in-Some.i c.self.invariant found c.index.result.now c.index.ensures c.if-not-index.true there).0

pub invariant_of-self-then-not-index : goal.invariant_of-self-then-not-index
invariant_of-self-then-not-index c =
    let s = c.self.inside in
    let here = rw c.deref.ensures.value at (sym c.index_of.ensures ∙ c.in-Some.is) in
    let found = IsFirst-position s.elements.items c.args.target _ here in
    let there = subst (λ (v : State). IsThere v.placed c.args.target) (sym c.self.view_is) c.requires in
    rw c.in_ok-push.ensures.items (IsPlainState-delete s.elements.items s.deleted.items s.deletes.items s.left c.args.target c.args.by c.in-Some.i c.self.invariant found c.index.result.now c.index.ensures c.if-not-index.true there).1

pub invariant_of-self-else-not-index : goal.invariant_of-self-else-not-index
invariant_of-self-else-not-index c =
    let s = c.self.inside in
    let here = rw c.deref.ensures.value at (sym c.index_of.ensures ∙ c.in-Some.is) in
    let found = IsFirst-position s.elements.items c.args.target _ here in
    let there = subst (λ (v : State). IsThere v.placed c.args.target) (sym c.self.view_is) c.requires in
    rw c.in_ok-push.ensures.items (IsPlainState-delete_again s.elements.items s.deleted.items s.deletes.items s.left c.args.target c.args.by c.in-Some.i c.self.invariant found c.index.result.now c.index.ensures c.if-not-index.false there)

pub invariant_of-self-in_default : goal.invariant_of-self-in_default
invariant_of-self-in_default c =
    let s = c.self.inside in
    let here = rw c.deref.ensures.value at (sym c.index_of.ensures ∙ c.in_default.is) in
    let new = IsFirst-position s.elements.items c.args.target _ here in
    let there = subst (λ (v : State). IsThere v.placed c.args.target) (sym c.self.view_is) c.requires in
    absurd (IsThere-not_new s.elements.items c.args.target there new)
