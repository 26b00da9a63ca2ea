use Rattle.tp_layout.proofs.SpellingLaws.{spelling_bounds}
use Rattle.tp_layout.proofs.laws.sizes.Goals as goal

pub returns : goal.returns
returns c = spelling_bounds
