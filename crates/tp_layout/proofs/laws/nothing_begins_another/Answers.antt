use Rattle.tp_layout.proofs.SpellingLaws.{no_longer_spelling}
use Rattle.tp_layout.proofs.laws.nothing_begins_another.Goals as goal

pub returns : goal.returns
returns c = no_longer_spelling
