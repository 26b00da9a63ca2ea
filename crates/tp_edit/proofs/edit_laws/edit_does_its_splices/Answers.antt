use Rattle.tp_edit.proofs.Edited.{edit_law}
use Rattle.tp_edit.proofs.edit_laws.edit_does_its_splices.Goals as goal

pub returns : goal.returns
returns c = edit_law
