use Rattle.tp_served.proofs.Common.{◌≡◌, ap, subst, gave, seat_of}
use Rattle.tp_served.specs.Absences.{AbsenceState, peer_of}
use Rattle.tp_served.specs.Sitting.{first_seat}
use Rattle.tp_served.proofs.TokenLaws.{seat_at}
use Rattle.tp_served.proofs.served.Served.end_turn.Goals as goal

pub invariant_of-result : goal.invariant_of-result
invariant_of-result g c =
    let m = c.absence.inside.token.me in
    seat_at _ _ _ (gave (peer_of m.0.holding) c.args.peer (first_seat m.0.seats)) (c.give-badge.ensures.given (first_seat m.0.seats) (peer_of m.0.holding) c.absence.invariant.out) c.absence.invariant.number

pub returns-clause-gave : goal.returns-clause-gave
returns-clause-gave g c =
    let m = c.absence.inside.token.me in
    subst (λ (a : AbsenceState). seat_of c.give-badge.result.views ≡ gave a.out c.args.peer a.seat) c.absence.view_is
    (ap seat_of (c.give-badge.ensures.given (first_seat m.0.seats) (peer_of m.0.holding) c.absence.invariant.out))
