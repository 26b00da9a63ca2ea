use Rattle.tp_mirror.proofs.Places.{copy_found}
use Rattle.tp_mirror.proofs.taking.copy_of_last.Goals as goal

pub returns-then-at-texts : goal.returns-then-at-texts
returns-then-at-texts c = rw (← c.as_slice-texts.ensures) (copy_found c.as_slice-texts.result.now c.args.text c.in-Some.at c.index-texts-at.result _ c.in-Some.ensures c.if-at-texts.true c.index-texts-at.is c.in_ok-copy-in-Some.ensures)
