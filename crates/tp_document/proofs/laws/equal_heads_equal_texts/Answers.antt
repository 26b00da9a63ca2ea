use Rattle.tp_document.proofs.TextLaws as laws
use Rattle.tp_document.proofs.laws.equal_heads_equal_texts.Goals as goal

pub returns : goal.returns
returns c = laws.equal_heads_equal_texts
