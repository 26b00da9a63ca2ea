use Rattle.tp_rga.proofs.OneOrder.{same_text}
use Rattle.tp_rga.proofs.order_laws.same_text.Goals as goal

pub returns : goal.returns
returns c = same_text
