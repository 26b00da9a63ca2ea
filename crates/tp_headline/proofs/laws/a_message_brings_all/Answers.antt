use Rattle.tp_headline.proofs.BringingLaws.{message_brings}
use Rattle.tp_headline.proofs.laws.a_message_brings_all.Goals as goal

pub returns : goal.returns
returns c = message_brings
