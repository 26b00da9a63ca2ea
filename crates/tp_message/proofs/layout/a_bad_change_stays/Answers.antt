use Rattle.tp_message.proofs.WholeMessage.{bad_change_stays, bad_change_bars}
use Rattle.tp_message.proofs.layout.a_bad_change_stays.Goals as goal

pub returns-clause-stays : goal.returns-clause-stays
returns-clause-stays c = bad_change_stays

pub returns-clause-barred : goal.returns-clause-barred
returns-clause-barred c = bad_change_bars
