use Rattle.tp_rga.proofs.OneOrder.{present_once}
use Rattle.tp_rga.proofs.order_laws.present_once.Goals as goal

pub returns : goal.returns
returns c = present_once
