use Rattle.tp_edit.proofs.Removals.{ops_from-removals}
use Rattle.tp_edit.proofs.edit_laws.removals_delete_each_element.Goals as goal

pub returns : goal.returns
returns c = ops_from-removals
