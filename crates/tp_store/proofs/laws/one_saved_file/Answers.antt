use Rattle.tp_store.proofs.WholeFile.{one_saved}
use Rattle.tp_store.proofs.laws.one_saved_file.Goals as goal

pub returns : goal.returns
returns c = one_saved
