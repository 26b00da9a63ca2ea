use Rattle.tp_message.proofs.Common.{◌∙◌, arith}
use Rattle.tp_message.proofs.StepLaws.{no_hashes, some_hashes}
use Rattle.tp_message.proofs.stages.hashes_left.Goals as goal

pub returns-then-count-eq0 : goal.returns-then-count-eq0
returns-then-count-eq0 c = λ rest. no_hashes _ _ _ _ rest (omega arith) ∙ c.after_list.ensures rest

pub returns : goal.returns
returns c = λ rest. some_hashes _ _ _ _ _ rest (omega arith)
