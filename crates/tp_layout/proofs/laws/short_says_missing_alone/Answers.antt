use Rattle.tp_layout.proofs.Blame.{prefix_of_short}
use Rattle.tp_layout.proofs.laws.short_says_missing_alone.Goals as goal

pub returns : goal.returns
returns c = prefix_of_short
