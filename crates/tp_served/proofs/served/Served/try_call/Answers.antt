use Rattle.tp_served.proofs.Common.{◌∙◌, ap, refl, sym, subst, Badge, call_in, reply_of, IsOnlyOn, SeatState, ViewState, seat_of, Replied}
use Rattle.tp_served.proofs.TokenLaws.{seat_at, tries_turn}
use Rattle.tp_served.proofs.served.Served.try_call.Goals as goal

pub call_on-badge-requires-clause-turn : goal.call_on-badge-requires-clause-turn
call_on-badge-requires-clause-turn g c =
    let t = seat_of c.seat.inside.badge.views in
    let views = ap (λ (b : Badge ViewState). b.views) c.replace-badge.ensures.value ∙ c.seat.invariant.alone in
    (t, c.in-Ok.ensures.taken.1 t views, subst (λ (s : SeatState). IsOnlyOn s.state.number (call_in c.args.request)) (sym c.seat.view_is) c.requires.link)

pub invariant_of-seat : goal.invariant_of-seat
invariant_of-seat g c =
    let t = seat_of c.seat.inside.badge.views in
    let views = ap (λ (b : Badge ViewState). b.views) c.replace-badge.ensures.value ∙ c.seat.invariant.alone in
    let ends = c.call_on-badge.ensures.ends t (c.in-Ok.ensures.taken.1 t views) in
    seat_at _ _ _ ends.state ends.alone (ends.shows.number ∙ c.seat.invariant.number)

pub returns-in-Ok-clause-tries : goal.returns-in-Ok-clause-tries
returns-in-Ok-clause-tries g c =
    let t = seat_of c.seat.inside.badge.views in
    let views = ap (λ (b : Badge ViewState). b.views) c.replace-badge.ensures.value ∙ c.seat.invariant.alone in
    let ends = c.call_on-badge.ensures.ends t (c.in-Ok.ensures.taken.1 t views) in
    tries_turn t c.args.seat.now.state (call_in c.args.request) (reply_of c.call_on-badge.result.1) (Replied (reply_of c.call_on-badge.result.1)) c.call_on-badge.result.0.views (ap (λ (s : SeatState). s.state) c.seat.view_is) refl ends
