use Rattle.tp_rga.proofs.Trees.{Before-cases}
use Rattle.tp_rga.proofs.order_laws.before_cases.Goals as goal

pub returns : goal.returns
returns c = Before-cases
