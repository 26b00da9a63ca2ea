use Rattle.tp_edit.proofs.RecordLimits.{AllTexts-size}
use Rattle.tp_edit.proofs.edit_laws.edit_within_size_has_texts_within_theirs.Goals as goal

pub returns : goal.returns
returns c = AllTexts-size
