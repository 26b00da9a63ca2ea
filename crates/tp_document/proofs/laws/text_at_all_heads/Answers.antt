use Rattle.tp_document.proofs.TextLaws as laws
use Rattle.tp_document.proofs.laws.text_at_all_heads.Goals as goal

pub returns : goal.returns
returns c = laws.text_at_all_heads
