use Rattle.tp_rga.proofs.OneOrder.{order_of_set}
use Rattle.tp_rga.proofs.order_laws.order_of_set.Goals as goal

pub returns : goal.returns
returns c = order_of_set
