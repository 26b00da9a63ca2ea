use Rattle.tp_store.proofs.WholeFile.{not_a_change}
use Rattle.tp_store.proofs.laws.what_is_no_change_is_damaged.Goals as goal

pub returns : goal.returns
returns c = not_a_change
