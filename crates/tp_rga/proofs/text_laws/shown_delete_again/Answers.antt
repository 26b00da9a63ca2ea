use Rattle.tp_rga.proofs.Edits.{shown_delete_again}
use Rattle.tp_rga.proofs.text_laws.shown_delete_again.Goals as goal

pub returns : goal.returns
returns c = shown_delete_again
