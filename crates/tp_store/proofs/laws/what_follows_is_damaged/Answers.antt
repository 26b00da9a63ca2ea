use Rattle.tp_store.proofs.WholeFile.{more_damaged}
use Rattle.tp_store.proofs.laws.what_follows_is_damaged.Goals as goal

pub returns : goal.returns
returns c = more_damaged
