use Rattle.tp_sync.proofs.KnownLaws.{known_are}
use Rattle.tp_sync.proofs.laws.what_is_declared_as_known.Goals as goal

pub returns : goal.returns
returns c = known_are
