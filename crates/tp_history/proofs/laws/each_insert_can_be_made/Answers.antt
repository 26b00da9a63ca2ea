use Rattle.tp_history.proofs.SoundLaws.{Fits-from_defect}
use Rattle.tp_history.proofs.TreeLaws.{can_insert}
use Rattle.tp_history.proofs.laws.each_insert_can_be_made.Goals as goal

pub returns : goal.returns
returns c = λ C c s m xs id after ch ys e. can_insert C c s (Fits-from_defect C c m) xs id after ch ys e
