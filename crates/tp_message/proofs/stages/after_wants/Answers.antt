use Rattle.tp_message.proofs.Common.{parts_in}
use Rattle.tp_message.proofs.StepLaws.{after_wants_2, after_wants_1}
use Rattle.tp_message.proofs.stages.after_wants.Goals as goal

pub returns-then-lists-eq2 : goal.returns-then-lists-eq2
returns-then-lists-eq2 c = λ rest. after_wants_2 (parts_in c.args.lists.now) rest c.if-lists-eq2.true

pub returns : goal.returns
returns c = λ rest. after_wants_1 (parts_in c.args.lists.now) rest c.if-lists-eq2.false
