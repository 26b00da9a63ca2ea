use Rattle.std.proofs.Common.{◌≡◌, ◌∙◌, ◌∷◌, ◌++◌, [], List, ap}
use Rattle.tp_layout.specs.declared.parts.ChangeParts.{ChangeParts}
use Rattle.tp_recovery.proofs.WholeLaws.{one_entered, one_unfit}
use Rattle.tp_recovery.proofs.rescuing.enter_if_fits.Goals as goal

pub returns-in-Ok-clause-ok : goal.returns-in-Ok-clause-ok
returns-in-Ok-clause-ok g c =
    one_entered c.args.document.now.applied c.enter.new.self.applied c.args.change.now
    (c.enter.ensures.applied ∙ ap (λ (l : List ChangeParts). l ++ c.in-Ok.copy ∷ []) c.in_ok-ready_or_cause.ensures.stays.applied
    ∙ ap (λ (x : ChangeParts). c.args.document.now.applied ++ x ∷ []) c.in-Ok.ensures.copied)

pub returns-in-Some-clause-ok : goal.returns-in-Some-clause-ok
returns-in-Some-clause-ok g c =
    let unfit = rw c.in-Some.is at c.in_ok-ready_or_cause.ensures.unfit in
    one_unfit c.args.document.now.applied c.ready_or_cause.new.document.applied c.args.change.now c.in-Some.field-0 c.in_ok-ready_or_cause.ensures.stays.applied unfit
