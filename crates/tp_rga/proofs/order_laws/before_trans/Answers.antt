use Rattle.tp_rga.proofs.Trees.{Before-trans}
use Rattle.tp_rga.proofs.order_laws.before_trans.Goals as goal

pub returns : goal.returns
returns c = Before-trans
