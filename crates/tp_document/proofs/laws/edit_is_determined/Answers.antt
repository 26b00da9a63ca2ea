use Rattle.tp_document.proofs.EditFits.{edit_determined}
use Rattle.tp_document.proofs.laws.edit_is_determined.Goals as goal

pub returns : goal.returns
returns c = λ C asked c d s x y. edit_determined C asked c d s x.edit y.edit
