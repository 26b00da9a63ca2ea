use Rattle.tp_headline.proofs.MakingLaws.{edit_is_new}
use Rattle.tp_headline.proofs.laws.an_edit_is_new.Goals as goal

pub returns : goal.returns
returns c = edit_is_new
