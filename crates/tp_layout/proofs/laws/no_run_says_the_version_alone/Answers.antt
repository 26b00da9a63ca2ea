use Rattle.tp_layout.proofs.RunLaws.{no_run_is, no_run_again}
use Rattle.tp_layout.proofs.laws.no_run_says_the_version_alone.Goals as goal

pub returns : goal.returns
returns c = λ bytes fits. (no_run_is bytes fits, no_run_again bytes)
