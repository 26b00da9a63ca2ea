use Rattle.tp_rga.proofs.OneOrder.{greatest_inserted}
use Rattle.tp_rga.proofs.order_laws.greatest_inserted.Goals as goal

pub returns : goal.returns
returns c = greatest_inserted
