use Rattle.tp_rga.proofs.OneOrder.{one_order}
use Rattle.tp_rga.proofs.order_laws.one_order.Goals as goal

pub returns : goal.returns
returns c = one_order
