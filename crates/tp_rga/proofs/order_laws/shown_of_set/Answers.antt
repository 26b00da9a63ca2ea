use Rattle.tp_rga.proofs.OneOrder.{shown_of_set}
use Rattle.tp_rga.proofs.order_laws.shown_of_set.Goals as goal

pub returns : goal.returns
returns c = shown_of_set
