use Rattle.tp_message.proofs.Common.{◌∙◌}
use Rattle.tp_message.proofs.StepLaws.{change_count_step, change_count_fault}
use Rattle.tp_message.proofs.stages.on_change_count.Goals as goal

pub returns-then-count-gt-MAX_CHANGES : goal.returns-then-count-gt-MAX_CHANGES
returns-then-count-gt-MAX_CHANGES c = λ m rest. change_count_fault m c.number_in-count.result c.args.field.now rest c.requires c.number_in-count.ensures c.if-count-gt-MAX_CHANGES.true

pub returns : goal.returns
returns c = λ m rest.
    change_count_step m c.number_in-count.result c.args.field.now rest c.requires c.number_in-count.ensures c.if-count-gt-MAX_CHANGES.false
    ∙ c.changes_left.ensures m rest
