use Rattle.tp_rga.proofs.OneOrder.{order_of_part}
use Rattle.tp_rga.proofs.order_laws.order_of_part.Goals as goal

pub returns : goal.returns
returns c = order_of_part
