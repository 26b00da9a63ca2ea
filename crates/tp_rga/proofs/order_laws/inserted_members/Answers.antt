use Rattle.tp_rga.proofs.OneOrder.{inserted_members}
use Rattle.tp_rga.proofs.order_laws.inserted_members.Goals as goal

pub returns : goal.returns
returns c = inserted_members
