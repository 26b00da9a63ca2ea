use Rattle.tp_edit.proofs.RecordLimits.{count_of-records_of}
use Rattle.tp_edit.proofs.edit_laws.edit_takes_its_operations.Goals as goal

pub returns : goal.returns
returns c = count_of-records_of
