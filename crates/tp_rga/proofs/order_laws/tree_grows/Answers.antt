use Rattle.tp_opid.proofs.Trees.{IsTree-push}
use Rattle.tp_rga.proofs.order_laws.tree_grows.Goals as goal

pub returns : goal.returns
returns c = IsTree-push
