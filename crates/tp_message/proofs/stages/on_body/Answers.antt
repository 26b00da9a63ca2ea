use Rattle.tp_message.proofs.Common.{◌∙◌, ap, sym, refl, List, err_from_is_err_and, ChangeParts, parts_in, MessageParts, entries_from}
use Rattle.tp_message.proofs.StepLaws.{body_step, body_fails}
use Rattle.tp_message.proofs.stages.on_body.Goals as goal

pub returns-in_err-change : goal.returns-in_err-change
returns-in_err-change c =
    let p = err_from_is_err_and c.from_residual.result c.from_residual.ensures.1 in
    rw (p.1, p.2) (body_fails c.args.more (parts_in c.args.lists.now) c.in_err-change.field-0.0 c.args.field.now (λ rest. c.in_err-change.ensures rest))

pub returns : goal.returns
returns c = λ rest.
    body_step _ c.args.more (parts_in c.args.lists.now) c.in_ok-change.change c.args.field.now rest refl (c.in_ok-change.ensures rest)
    ∙ ap (λ (cs : List ChangeParts). entries_from c.args.more (let p : MessageParts = record (parts_in c.args.lists.now) { changes = cs } in p) rest) (sym c.in_ok-push.ensures.items)
    ∙ c.changes_left.ensures _ rest
