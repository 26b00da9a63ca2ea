use Rattle.tp_rga.proofs.Edits.{shown_insert_start}
use Rattle.tp_rga.proofs.text_laws.shown_insert_start.Goals as goal

pub returns : goal.returns
returns c = shown_insert_start
