use Rattle.tp_rga.proofs.OneOrder.{order_exists}
use Rattle.tp_rga.proofs.order_laws.order_exists.Goals as goal

pub returns : goal.returns
returns c = order_exists
