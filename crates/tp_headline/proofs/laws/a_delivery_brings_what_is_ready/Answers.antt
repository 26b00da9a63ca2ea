use Rattle.tp_headline.proofs.BringingLaws.{delivery_brings}
use Rattle.tp_headline.proofs.laws.a_delivery_brings_what_is_ready.Goals as goal

pub returns : goal.returns
returns c = delivery_brings
