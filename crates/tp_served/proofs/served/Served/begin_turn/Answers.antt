use Rattle.tp_served.proofs.Common.{◌≡◌, ℕ, ap, subst, SeatKnowledge, SeatState, Token, missed_by, seat_of}
use Rattle.tp_served.specs.Seats.{IsKeptIn, took}
use Rattle.tp_served.specs.Sitting.{first_seat}
use Rattle.tp_served.proofs.served.Served.begin_turn.Goals as goal

pub returns-clause-seat : goal.returns-clause-seat
returns-clause-seat g c =
    let t = seat_of c.seat.inside.badge.views in
    let turn = c.wait-token.ensures.taken t c.seat.invariant.alone in
    subst (λ (u : SeatKnowledge). (k : ℕ) × (first_seat c.wait-token.result.token.me.0.seats ≡ took (missed_by k u)) × IsKeptIn (missed_by k u) c.wait-token.result.peer)
    (ap (λ (s : SeatState). s.state) c.seat.view_is) (turn.0, ap (λ (m : Token). first_seat m.0.seats) turn.1.out, turn.1.kept)
