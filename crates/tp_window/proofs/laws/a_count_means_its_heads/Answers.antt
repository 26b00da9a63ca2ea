use Rattle.tp_window.proofs.FirstLaws.{resumed_alike}
use Rattle.tp_window.proofs.laws.a_count_means_its_heads.Goals as goal

pub returns : goal.returns
returns c = λ C D texts spelled who resumed. resumed_alike C D texts spelled who resumed
