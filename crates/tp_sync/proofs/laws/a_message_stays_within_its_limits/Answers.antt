use Rattle.tp_sync.proofs.LimitLaws.{carried_within}
use Rattle.tp_sync.proofs.laws.a_message_stays_within_its_limits.Goals as goal

pub returns : goal.returns
returns c = carried_within
