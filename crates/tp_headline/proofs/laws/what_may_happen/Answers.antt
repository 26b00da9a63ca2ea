use Rattle.tp_headline.proofs.MayLaws.{edit_happens, open_happens, start_happens}
use Rattle.tp_headline.proofs.laws.what_may_happen.Goals as goal

pub returns : goal.returns
returns c = record { start = start_happens; edit = edit_happens; messages = open_happens }
