use Rattle.tp_message.proofs.Common.{◌≡◌, ◌∙◌, ap, length, parts_in, need}
use Rattle.tp_message.proofs.StepLaws.{length_step}
use Rattle.tp_message.proofs.stages.after.Goals as goal

pub returns-in-Length : goal.returns-in-Length
returns-in-Length c = λ rest.
    let four : length c.args.field.now ≡ 4 = c.requires ∙ ap need c.in-Length.is in
    rw c.in-Length.is (rw c.number_in.ensures (length_step c.in-Length.more (parts_in c.args.lists.now) c.args.field.now rest four))
