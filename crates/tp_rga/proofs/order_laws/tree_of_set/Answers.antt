use Rattle.tp_opid.proofs.Trees.{IsTree-same}
use Rattle.tp_rga.proofs.order_laws.tree_of_set.Goals as goal

pub returns : goal.returns
returns c = IsTree-same
