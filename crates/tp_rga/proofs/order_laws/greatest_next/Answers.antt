use Rattle.tp_rga.proofs.OneOrder.{greatest_next}
use Rattle.tp_rga.proofs.order_laws.greatest_next.Goals as goal

pub returns : goal.returns
returns c = greatest_next
