use Rattle.tp_message.proofs.Common.{arith}
use Rattle.tp_message.proofs.StepLaws.{no_entries, some_entries}
use Rattle.tp_message.proofs.stages.changes_left.Goals as goal

pub returns-then-count-eq0 : goal.returns-then-count-eq0
returns-then-count-eq0 c = λ m rest. no_entries _ m rest (omega arith)

pub returns : goal.returns
returns c = λ m rest. some_entries _ _ m rest (omega arith)
