use Rattle.tp_edit.proofs.Removals.{longest}
use Rattle.tp_edit.proofs.edit_laws.removals_are_as_few_as_can_be.Goals as goal

pub returns : goal.returns
returns c = longest
