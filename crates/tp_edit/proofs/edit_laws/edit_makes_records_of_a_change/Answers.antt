use Rattle.tp_edit.proofs.RecordLimits.{records_of-IsRecord}
use Rattle.tp_edit.proofs.edit_laws.edit_makes_records_of_a_change.Goals as goal

pub returns : goal.returns
returns c = records_of-IsRecord
