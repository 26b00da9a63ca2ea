use Rattle.tp_headline.proofs.CrashMoves.{crash_makes}
use Rattle.tp_headline.proofs.laws.a_crash_within_an_edit.Goals as goal

pub returns : goal.returns
returns c = crash_makes
