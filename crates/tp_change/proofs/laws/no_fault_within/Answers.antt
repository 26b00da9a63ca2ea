use Rattle.tp_change.proofs.ValidatedLaws.{change_of, ok_change}
use Rattle.tp_change.proofs.laws.no_fault_within.Goals as goal

pub returns : goal.returns
returns c = λ parts typed. (change_of parts typed, ok_change parts)
