use Rattle.std.proofs.Common.{arith, sym, subst}
use Rattle.tp_opid.specs.Tree.{IsNew}
use Rattle.tp_rga.specs.State.{State}
use Rattle.tp_rga.proofs.PlainStates.{IsPlainState-insert, IsPlainState-left}
use Rattle.tp_rga.proofs.plain.PlainSequenceSequence.insert.Goals as goal

pub overflow_add-self : goal.overflow_add-self
overflow_add-self c =
    let s = c.self.inside in
    let le = IsPlainState-left s.elements.items s.deleted.items s.deletes.items s.left c.self.invariant in
    omega (arith, c.in_ok-put_in.ensures.ok, c.in_ok-put_in.ensures.fits)

pub invariant_of-self-2 : goal.invariant_of-self-2
invariant_of-self-2 c =
    let s = c.self.inside in
    let new = subst (λ (v : State). IsNew v.placed c.args.id) (sym c.self.view_is) c.requires.new in
    rw (c.in_ok-put_in.ensures.ok.0, c.in_ok-put_in.ensures.ok.1) (IsPlainState-insert s.elements.items s.deleted.items s.deletes.items s.left c.index_for-at.result (record { id = c.args.id; after = c.args.after; ch = c.args.ch }) c.self.invariant new)

pub returns-clause-ok : goal.returns-clause-ok
returns-clause-ok c =
    let s = c.self.inside in
    let put = rw c.deref.ensures.value at (c.index_for-at.ensures.order c.args.ch) in
    rw (← c.self.view_is, c.in_ok-put_in.ensures.ok.0) put
