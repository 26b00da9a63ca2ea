use Rattle.tp_snapshot.proofs.ShowingLaws as laws
use Rattle.tp_document.proofs.laws.one_text.Goals as goal

pub returns : goal.returns
returns c = laws.one_text
