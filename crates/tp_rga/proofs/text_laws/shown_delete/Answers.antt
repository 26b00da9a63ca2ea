use Rattle.tp_rga.proofs.Edits.{shown_delete}
use Rattle.tp_rga.proofs.text_laws.shown_delete.Goals as goal

pub returns : goal.returns
returns c = shown_delete
