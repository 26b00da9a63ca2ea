use Rattle.tp_store.proofs.WholeFile.{cut_truncated}
use Rattle.tp_store.proofs.laws.a_cut_is_truncated.Goals as goal

pub returns : goal.returns
returns c = cut_truncated
