use Rattle.tp_history.proofs.SoundLaws.{Fits-from_defect}
use Rattle.tp_history.proofs.TreeLaws.{can_delete}
use Rattle.tp_history.proofs.laws.each_target_is_there.Goals as goal

pub returns : goal.returns
returns c = λ C c m xs id target ys e. can_delete C c (Fits-from_defect C c m) xs id target ys e
