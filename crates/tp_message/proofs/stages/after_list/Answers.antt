use Rattle.tp_message.proofs.Common.{parts_in}
use Rattle.tp_message.proofs.StepLaws.{after_heads, after_known}
use Rattle.tp_message.proofs.stages.after_list.Goals as goal

pub returns-in-Heads : goal.returns-in-Heads
returns-in-Heads c = λ rest. rw c.in-Heads.is (after_heads (parts_in c.args.lists.now) rest)

pub returns-in-Wants : goal.returns-in-Wants
returns-in-Wants c = λ rest. rw c.in-Wants.is (c.after_wants.ensures rest)

pub returns-in-Known : goal.returns-in-Known
returns-in-Known c = λ rest. rw c.in-Known.is (after_known (parts_in c.args.lists.now) rest)
