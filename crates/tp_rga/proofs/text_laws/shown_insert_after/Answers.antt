use Rattle.tp_rga.proofs.Edits.{shown_insert_after}
use Rattle.tp_rga.proofs.text_laws.shown_insert_after.Goals as goal

pub returns : goal.returns
returns c = shown_insert_after
