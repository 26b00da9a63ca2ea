use Rattle.tp_document.proofs.Common.{Ok, subst, sym, chars, ChangeParts, DocState, asking, IsAcceptedEdit, AreInRange, RefusesMaking, AsksNothing, IsAllowed, IsWithinSize}
use Rattle.tp_document.proofs.EditFits.{edit_enters}
use Rattle.tp_document.proofs.EditAnswers.{refuses_shut}
use Rattle.tp_document.proofs.document.Document.make_edit.Goals as goal

pub returns-in-Ok-false : goal.returns-in-Ok-false
returns-in-Ok-false g c =
    subst (λ (d : DocState). AsksNothing d.applied (asking c.args.actor c.args.splices.now c.args.time (chars c.args.message.now))) c.self.view_is
    ((subst (λ b. IsAllowed c.self.inside.graph.applied c.args.splices.now (chars c.args.message.now) (Ok b)) c.in-Ok-false.field-0-test c.in-Ok-false.ensures) c.args.actor c.args.time)

pub returns-in-Err : goal.returns-in-Err
returns-in-Err g c =
    subst (λ (d : DocState). RefusesMaking d.applied (asking c.args.actor c.args.splices.now c.args.time (chars c.args.message.now)) c.in-Err.error) c.self.view_is
    (c.in-Err.ensures c.args.actor c.args.time)

pub change_of-requires-clause-within : goal.change_of-requires-clause-within
change_of-requires-clause-within g c =
    (subst (λ b. IsAllowed c.self.inside.graph.applied c.args.splices.now (chars c.args.message.now) (Ok b)) c.in-Ok-true.field-0-test c.in-Ok-true.ensures) c.args.actor c.args.time

pub returns-in-Ok-unless_shut : goal.returns-in-Ok-unless_shut
returns-in-Ok-unless_shut g c =
    let C = c.self.inside.graph.applied in
    let asked = asking c.args.actor c.args.splices.now c.args.time (chars c.args.message.now) in
    let w : IsWithinSize C asked c.in-Ok.change = c.in-Ok.ensures in
    let range : AreInRange C c.args.splices.now = w.size.before.before.asks.range in
    let h = c.self.invariant in
    subst (λ (d : DocState). IsAcceptedEdit d.applied asked c.in-Ok-unless_shut.change) c.self.view_is
    (subst (λ (y : ChangeParts). IsAcceptedEdit C asked y) (sym c.in-Ok-unless_shut.ensures.0)
    (record {
      edit = w.edit;
      range = range;
      some = w.size.before.before.asks.some;
      limits = w.limits;
      enters = edit_enters C asked c.in-Ok.change h.sound w.edit range c.in-Ok-unless_shut.ensures.2 c.in-Ok-unless_shut.ensures.1;
    }))

pub returns-in-Err-change_of : goal.returns-in-Err-change_of
returns-in-Err-change_of g c =
    subst (λ (d : DocState). RefusesMaking d.applied (asking c.args.actor c.args.splices.now c.args.time (chars c.args.message.now)) c.in-Err-change_of.error) c.self.view_is
    c.in-Err-change_of.ensures

pub returns-in-Err-unless_shut : goal.returns-in-Err-unless_shut
returns-in-Err-unless_shut g c =
    let C = c.self.inside.graph.applied in
    let asked = asking c.args.actor c.args.splices.now c.args.time (chars c.args.message.now) in
    subst (λ (d : DocState). RefusesMaking d.applied asked c.in-Err-unless_shut.error) c.self.view_is
    (refuses_shut C asked c.in-Ok.change c.in-Err-unless_shut.error c.self.invariant.sound c.in-Ok.ensures c.in-Err-unless_shut.ensures)
