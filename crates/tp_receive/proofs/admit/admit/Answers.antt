use Rattle.tp_receive.proofs.admit.admit.Goals as goal
use Rattle.tp_receive.proofs.TakingLaws.{from_ok}

pub enter_kept-requires-clause-room : goal.enter_kept-requires-clause-room
enter_kept-requires-clause-room g c = from_ok _ c.ready.result c.ready.ensures.room (rw c.in-Enters.is at c.in_ok-judge.ensures.entry)
