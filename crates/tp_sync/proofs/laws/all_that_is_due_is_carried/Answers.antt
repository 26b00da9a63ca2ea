use Rattle.tp_sync.proofs.TakeLaws.{all_carried}
use Rattle.tp_sync.proofs.laws.all_that_is_due_is_carried.Goals as goal

pub returns : goal.returns
returns c = all_carried
