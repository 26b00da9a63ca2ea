use Rattle.tp_history.proofs.SoundLaws.{Fits-from_defect}
use Rattle.tp_history.proofs.TreeLaws.{own-below}
use Rattle.tp_history.proofs.laws.own_inserts_are_below.Goals as goal

pub returns : goal.returns
returns c = λ C c s m x i e. own-below C c s (Fits-from_defect C c m) x i e
