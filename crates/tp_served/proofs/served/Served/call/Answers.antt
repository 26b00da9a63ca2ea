use Rattle.tp_served.proofs.Common.{◌∙◌, ap, sym, subst, Badge, call_in, IsOnlyOn, SeatState, missed_by, ViewState, seat_of}
use Rattle.tp_served.proofs.TokenLaws.{seat_at, shows_turn}
use Rattle.tp_served.proofs.served.Served.call.Goals as goal

pub call_on-badge-requires-clause-turn : goal.call_on-badge-requires-clause-turn
call_on-badge-requires-clause-turn g c =
    let t = seat_of c.seat.inside.badge.views in
    let views = ap (λ (b : Badge ViewState). b.views) c.replace-badge.ensures.value ∙ c.seat.invariant.alone in
    let turn = c.wait-turn.ensures.taken t views in
    (missed_by turn.0 t, turn.1, subst (λ (s : SeatState). IsOnlyOn s.state.number (call_in c.args.request)) (sym c.seat.view_is) c.requires.link)

pub invariant_of-seat : goal.invariant_of-seat
invariant_of-seat g c =
    let t = seat_of c.seat.inside.badge.views in
    let views = ap (λ (b : Badge ViewState). b.views) c.replace-badge.ensures.value ∙ c.seat.invariant.alone in
    let turn = c.wait-turn.ensures.taken t views in
    let ends = c.call_on-badge.ensures.ends (missed_by turn.0 t) turn.1 in
    seat_at _ _ _ ends.state ends.alone (ends.shows.number ∙ c.seat.invariant.number)

pub returns-clause-shows : goal.returns-clause-shows
returns-clause-shows g c =
    let t = seat_of c.seat.inside.badge.views in
    let views = ap (λ (b : Badge ViewState). b.views) c.replace-badge.ensures.value ∙ c.seat.invariant.alone in
    let turn = c.wait-turn.ensures.taken t views in
    let ends = c.call_on-badge.ensures.ends (missed_by turn.0 t) turn.1 in
    shows_turn t c.args.seat.now.state turn.0 _ _ c.call_on-badge.result.0.views (ap (λ (s : SeatState). s.state) c.seat.view_is) ends
