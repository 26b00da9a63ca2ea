use Rattle.std.proofs.Common.{◌∙◌, sym}
use Rattle.tp_online.proofs.PartLaws.{popped}
use Rattle.tp_online.proofs.SessionLaws.{parted}
use Rattle.tp_online.proofs.seating.seat_watched.Goals as goal

pub returns-clause-ok : goal.returns-clause-ok
returns-clause-ok g c =
    let e = c.in_ok-served.ensures in (
      e.ok.0,
      e.ok.1,
      sym e.ok.2 ∙ popped c.in_ok-served.seats.items c.pop.new.self.items c.pop.result c.in-Some.watch c.in-Some.is c.pop.ensures.items,
    )

pub returns-clause-of : goal.returns-clause-of
returns-clause-of g c =
    let e = c.in_ok-served.ensures in
    parted c.in_ok-served.served.served c.in_ok-served.served.count c.in_ok-served.seats.items c.pop.new.self.items c.in-Some.watch
    (popped c.in_ok-served.seats.items c.pop.new.self.items c.pop.result c.in-Some.watch c.in-Some.is c.pop.ensures.items) e.of.0 e.of.1
