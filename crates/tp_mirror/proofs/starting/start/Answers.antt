use Rattle.tp_mirror.proofs.Keeping.{kept-without_part}
use Rattle.tp_mirror.proofs.starting.start.Goals as goal

pub returns : goal.returns
returns g c = kept-without_part _ _ _ _ c.in_ok-remove_part.ensures c.in_ok-state.ensures
