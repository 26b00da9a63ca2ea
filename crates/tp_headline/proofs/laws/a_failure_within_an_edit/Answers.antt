use Rattle.tp_headline.proofs.FailureLaws.{edit_fails}
use Rattle.tp_headline.proofs.laws.a_failure_within_an_edit.Goals as goal

pub returns : goal.returns
returns c = edit_fails
