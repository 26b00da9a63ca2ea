use Rattle.tp_commands.proofs.HalfWayLaws.{half_way}
use Rattle.tp_commands.proofs.laws.a_beginning_leads_half_way.Goals as goal

pub returns : goal.returns
returns c = half_way
