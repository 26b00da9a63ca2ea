use Rattle.tp_rga.proofs.Trees.{Before-irreflexive}
use Rattle.tp_rga.proofs.order_laws.before_irreflexive.Goals as goal

pub returns : goal.returns
returns c = Before-irreflexive
