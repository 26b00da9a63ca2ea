use Rattle.std.proofs.Common.{ap, ◌∙◌}
use Rattle.tp_served.specs.Seats.{SeatState}
use Rattle.tp_served.proofs.SeatLaws.{last_is}
use Rattle.tp_test_peers.proofs.Seats.{put_in}
use Rattle.tp_test_peers.proofs.table.Table.go_on.Goals as goal

pub invariant_of-self-in-Some-2 : goal.invariant_of-self-in-Some-2
invariant_of-self-in-Some-2 c =
    let id = c.self.inside.served.served in
    let parted = last_is id _ c.pop.new.self.items c.in-Some.next c.in-Some.ensures.items c.self.invariant.1 in (
      ap (λ (s : SeatState). s.served) c.replace-before.ensures.after ∙ parted.1,
      put_in id c.pop.new.self.items _ c.replace-before.result _ c.insert-there_is_room.ensures.items parted.0 (ap (λ (s : SeatState). s.served) c.replace-before.ensures.value ∙ c.self.invariant.0),
    )
