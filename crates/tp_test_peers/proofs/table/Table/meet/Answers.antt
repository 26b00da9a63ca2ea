use Rattle.std.proofs.Common.{ap, ◌∙◌}
use Rattle.tp_served.specs.Seats.{SeatState}
use Rattle.tp_served.proofs.SeatLaws.{last_is}
use Rattle.tp_test_peers.proofs.Seats.{put_in}
use Rattle.tp_test_peers.proofs.table.Table.meet.Goals as goal

pub meet-requires-clause-other : goal.meet-requires-clause-other
meet-requires-clause-other c = (last_is c.self.inside.served.served _ c.pop.new.self.items c.in-Some.other c.in-Some.ensures.items c.self.invariant.1).1

pub invariant_of-self-in-Some-2 : goal.invariant_of-self-in-Some-2
invariant_of-self-in-Some-2 c =
    let id = c.self.inside.served.served in
    let parted = last_is id _ c.pop.new.self.items c.in-Some.other c.in-Some.ensures.items c.self.invariant.1 in (
      ap (λ (s : SeatState). s.served) c.meet.ensures.one ∙ c.self.invariant.0,
      put_in id c.pop.new.self.items _ c.meet.new.other _ c.insert-there_is_room.ensures.items parted.0 (ap (λ (s : SeatState). s.served) c.meet.ensures.other ∙ parted.1),
    )
