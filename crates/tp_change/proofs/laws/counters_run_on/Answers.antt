use Rattle.tp_change.proofs.OpsLaws.{ids-ops_of, length-ops_of}
use Rattle.tp_change.proofs.laws.counters_run_on.Goals as goal

pub returns-clause-ids : goal.returns-clause-ids
returns-clause-ids c = ids-ops_of

pub returns-clause-count : goal.returns-clause-count
returns-clause-count c = length-ops_of
