use Rattle.tp_rga.proofs.Lookups.{CanInsert-there}
use Rattle.tp_rga.proofs.placed.can_insert.Goals as goal

pub returns-else-not-contains : goal.returns-else-not-contains
returns-else-not-contains c = CanInsert-there _ _ _ _ c.if-not-contains.false c.contains.ensures
