use Rattle.tp_frame.proofs.StreamLaws.{fault_stays, fault_bars}
use Rattle.tp_frame.proofs.laws.a_fault_stays.Goals as goal

pub returns-clause-stays : goal.returns-clause-stays
returns-clause-stays c = fault_stays

pub returns-clause-barred : goal.returns-clause-barred
returns-clause-barred c = fault_bars
