use Rattle.tp_online.proofs.SessionLaws.{opened_are, opened_by}
use Rattle.tp_online.proofs.seating.seat_peer.Goals as goal

pub returns-in-Ok-clause-ok : goal.returns-in-Ok-clause-ok
returns-in-Ok-clause-ok g c =
    let served = c.in-Ok.ensures.served in (
      served.0,
      served.1,
      opened_by _ _ _ _ served.0 served.1 served.2,
    )

pub returns-in-Ok-clause-of : goal.returns-in-Ok-clause-of
returns-in-Ok-clause-of g c =
    let served = c.in-Ok.ensures.served in opened_are _ _ (opened_by _ _ _ _ served.0 served.1 served.2)
