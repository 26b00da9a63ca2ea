use Rattle.tp_document.proofs.TextLaws as laws
use Rattle.tp_document.proofs.laws.each_past_has_a_text.Goals as goal

pub returns : goal.returns
returns c = laws.each_past_has_a_text
