use Rattle.tp_served.proofs.Common.{[], ◌∷◌, ◌++◌, ◌∙◌, Some}
use Rattle.tp_served.proofs.SeatLaws.{opens_at}
use Rattle.tp_served.proofs.opening.table_of.Goals as goal

pub new-requires : goal.new-requires
new-requires g c =
    opens_at c.args.peer c.of.result.value c.args.count c.push_reserved.new.self.items c.of.ensures
    (c.push_reserved.ensures.items ∙ (λ i. c.in_ok-slots.ensures.items i ++ Some c.args.peer ∷ [])) c.requires
