use Rattle.tp_store.proofs.WholeFile.{loaded_again}
use Rattle.tp_store.proofs.laws.what_was_saved_loads.Goals as goal

pub returns : goal.returns
returns c = loaded_again
