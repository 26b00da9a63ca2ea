use Rattle.tp_edit.proofs.Edited.{Extends-edited}
use Rattle.tp_edit.proofs.edit_laws.applied_edit_does_its_splices.Goals as goal

pub returns : goal.returns
returns c = Extends-edited
