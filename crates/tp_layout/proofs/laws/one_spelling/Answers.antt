use Rattle.tp_layout.proofs.SpellingLaws.{one_spelling_is}
use Rattle.tp_layout.proofs.laws.one_spelling.Goals as goal

pub returns : goal.returns
returns c = one_spelling_is
