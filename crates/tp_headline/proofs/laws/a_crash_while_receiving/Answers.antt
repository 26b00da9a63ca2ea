use Rattle.tp_headline.proofs.CrashMoves.{crash_keeps}
use Rattle.tp_headline.proofs.laws.a_crash_while_receiving.Goals as goal

pub returns : goal.returns
returns c = crash_keeps
