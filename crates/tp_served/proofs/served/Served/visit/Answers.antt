use Rattle.tp_served.proofs.Common.{◌∙◌, ap, Badge, SeatState, missed_by, ViewState, seat_of}
use Rattle.tp_served.proofs.TokenLaws.{seat_at, visits_turn}
use Rattle.tp_served.proofs.served.Served.visit.Goals as goal

pub visit_on-badge-requires-clause-turn : goal.visit_on-badge-requires-clause-turn
visit_on-badge-requires-clause-turn g c =
    let t = seat_of c.seat.inside.badge.views in
    let views = ap (λ (b : Badge ViewState). b.views) c.replace-badge.ensures.value ∙ c.seat.invariant.alone in
    let turn = c.wait-turn.ensures.taken t views in
    (missed_by turn.0 t, turn.1)

pub invariant_of-seat : goal.invariant_of-seat
invariant_of-seat g c =
    let t = seat_of c.seat.inside.badge.views in
    let views = ap (λ (b : Badge ViewState). b.views) c.replace-badge.ensures.value ∙ c.seat.invariant.alone in
    let turn = c.wait-turn.ensures.taken t views in
    let ends = c.visit_on-badge.ensures.ends (missed_by turn.0 t) turn.1 in
    seat_at _ _ _ ends.state ends.alone (ends.visits.number ∙ c.seat.invariant.number)

pub returns-clause-visits : goal.returns-clause-visits
returns-clause-visits g c =
    let t = seat_of c.seat.inside.badge.views in
    let views = ap (λ (b : Badge ViewState). b.views) c.replace-badge.ensures.value ∙ c.seat.invariant.alone in
    let turn = c.wait-turn.ensures.taken t views in
    let ends = c.visit_on-badge.ensures.ends (missed_by turn.0 t) turn.1 in
    visits_turn t c.args.seat.now.state turn.0 _ c.visit_on-badge.result.0.views (ap (λ (s : SeatState). s.state) c.seat.view_is) ends
