use Rattle.tp_sync.proofs.TakeLaws.{some_carried}
use Rattle.tp_sync.proofs.laws.a_message_carries_something.Goals as goal

pub returns : goal.returns
returns c = some_carried
