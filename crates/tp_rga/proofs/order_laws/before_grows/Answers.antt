use Rattle.tp_rga.proofs.Trees.{Before-grow}
use Rattle.tp_rga.proofs.order_laws.before_grows.Goals as goal

pub returns : goal.returns
returns c = Before-grow
