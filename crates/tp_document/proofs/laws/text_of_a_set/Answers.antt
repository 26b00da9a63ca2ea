use Rattle.tp_document.proofs.TextLaws as laws
use Rattle.tp_document.proofs.laws.text_of_a_set.Goals as goal

pub returns : goal.returns
returns c = laws.text_of_a_set
