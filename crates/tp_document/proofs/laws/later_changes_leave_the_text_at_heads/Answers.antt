use Rattle.tp_document.proofs.TextLaws as laws
use Rattle.tp_document.proofs.laws.later_changes_leave_the_text_at_heads.Goals as goal

pub returns : goal.returns
returns c = laws.later_changes_leave_the_text_at_heads
