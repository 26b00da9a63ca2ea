use Rattle.tp_served.proofs.Common.{[], ◌∷◌, ap, sym, ◌∙◌, subst, ◌<◌, arith, HaveMet, SeatState, ServedState, seat_state, seat_of, Token, first_view_of, others_of}
use Rattle.tp_served.proofs.RuleLaws.{joins_at, looks, splits_at}
use Rattle.tp_served.proofs.TokenLaws.{any_step, joined_token, seat_at}
use Rattle.tp_served.proofs.served.Served.meet.Goals as goal

pub token_out-first-requires : goal.token_out-first-requires
token_out-first-requires g c = (seat_of c.one.inside.badge.views, c.one.invariant.alone)

pub token_out-both-requires : goal.token_out-both-requires
token_out-both-requires g c = (seat_of c.other.inside.badge.views, c.other.invariant.alone)

pub join_seat-requires : goal.join_seat-requires
join_seat-requires g c =
    let first = c.token_out-first.ensures.seat (seat_of c.one.inside.badge.views) c.one.invariant.alone in
    let both = c.token_out-both.ensures.seat (seat_of c.other.inside.badge.views) c.other.invariant.alone in
    let here = sym (ap (λ (s : ServedState). s.served) c.self.view_is) in (
      c.token_out-both.ensures.table ∙ (ap (λ (s : SeatState). s.served) c.other.view_is ∙ (c.requires.other ∙ here)),
      c.token_out-first.ensures.table ∙ (ap (λ (s : SeatState). s.served) c.one.view_is ∙ (c.requires.one ∙ here)),
      ap (λ (m : Token). m.1) first,
      subst (λ n. 0 < n) (sym c.self.invariant.0) (omega arith),
      joins_at _ _ _ _ _ _ (seat_of c.other.inside.badge.views ∷ []) (seat_of c.one.inside.badge.views ∷ []) (ap (λ (m : Token). m.0) both) (ap (λ (m : Token). m.0) first),
    )

pub load-requires : goal.load-requires
load-requires g c =
    let first = c.token_out-first.ensures.seat (seat_of c.one.inside.badge.views) c.one.invariant.alone in
    let both = c.token_out-both.ensures.seat (seat_of c.other.inside.badge.views) c.other.invariant.alone in
    let here = sym (ap (λ (s : ServedState). s.served) c.self.view_is) in (
      c.join_seat.ensures.0 ∙ (c.token_out-both.ensures.table ∙ (ap (λ (s : SeatState). s.served) c.other.view_is ∙ (c.requires.other ∙ here))),
      subst (λ n. 0 < n) (sym c.self.invariant.0) (omega arith),
      looks _ _ _ _ any_step _ (seat_of c.one.inside.badge.views) (seat_of c.other.inside.badge.views) (joined_token _ _ _ (seat_of c.one.inside.badge.views) (seat_of c.other.inside.badge.views) both first c.join_seat.ensures.2),
    )

pub split_seat-second-requires : goal.split_seat-second-requires
split_seat-second-requires g c =
    let t = seat_of c.one.inside.badge.views in
    let u = seat_of c.other.inside.badge.views in
    let together = joined_token _ _ _ t u (c.token_out-both.ensures.seat u c.other.invariant.alone) (c.token_out-first.ensures.seat t c.one.invariant.alone) c.join_seat.ensures.2 in
    let here = sym (ap (λ (s : ServedState). s.served) c.self.view_is) in (
      c.load.ensures.0 ∙ (c.join_seat.ensures.0 ∙ (c.token_out-both.ensures.table ∙ (ap (λ (s : SeatState). s.served) c.other.view_is ∙ (c.requires.other ∙ here)))),
      subst (λ n. 0 < n) (sym c.self.invariant.0) (omega arith),
      splits_at _ _ _ _ (t ∷ u ∷ []) (ap (λ (m : Token). m.0) ((c.load.ensures.2 t u together).0 ∙ together)),
    )

pub into_badge-requires : goal.into_badge-requires
into_badge-requires g c =
    let t = seat_of c.one.inside.badge.views in
    let u = seat_of c.other.inside.badge.views in
    let together = joined_token _ _ _ t u (c.token_out-both.ensures.seat u c.other.invariant.alone) (c.token_out-first.ensures.seat t c.one.invariant.alone) c.join_seat.ensures.2 in
    ap (λ (m : Token). m.1) c.split_seat-second.ensures.2 ∙ ap (λ (m : Token). m.1) ((c.load.ensures.2 t u together).0 ∙ together)

pub invariant_of-one : goal.invariant_of-one
invariant_of-one g c =
    let t = seat_of c.one.inside.badge.views in
    let u = seat_of c.other.inside.badge.views in
    let together = joined_token _ _ _ t u (c.token_out-both.ensures.seat u c.other.invariant.alone) (c.token_out-first.ensures.seat t c.one.invariant.alone) c.join_seat.ensures.2 in
    seat_at _ _ _ t
    (c.into_badge.ensures.2 ∙ (ap (λ (m : Token). m.0 ∷ []) c.split_seat-second.ensures.2 ∙ ap (λ (m : Token). first_view_of m.0 ∷ []) ((c.load.ensures.2 t u together).0 ∙ together)))
    c.one.invariant.number

pub invariant_of-other : goal.invariant_of-other
invariant_of-other g c =
    let t = seat_of c.one.inside.badge.views in
    let u = seat_of c.other.inside.badge.views in
    let together = joined_token _ _ _ t u (c.token_out-both.ensures.seat u c.other.invariant.alone) (c.token_out-first.ensures.seat t c.one.invariant.alone) c.join_seat.ensures.2 in
    seat_at _ _ _ u
    (c.into_badge-2.ensures.2 ∙ (ap (λ (m : Token). m.0 ∷ []) c.split_seat-second.ensures.4 ∙ ap (λ (m : Token). others_of m.0 ∷ []) ((c.load.ensures.2 t u together).0 ∙ together)))
    c.other.invariant.number

pub returns-clause-one : goal.returns-clause-one
returns-clause-one g c =
    let t = seat_of c.one.inside.badge.views in
    let u = seat_of c.other.inside.badge.views in
    let together = joined_token _ _ _ t u (c.token_out-both.ensures.seat u c.other.invariant.alone) (c.token_out-first.ensures.seat t c.one.invariant.alone) c.join_seat.ensures.2 in
    let views = c.into_badge.ensures.2 ∙ (ap (λ (m : Token). m.0 ∷ []) c.split_seat-second.ensures.2 ∙ (ap (λ (m : Token). first_view_of m.0 ∷ []) ((c.load.ensures.2 t u together).0 ∙ together) ∙ sym c.one.invariant.alone)) in
    let theirs = ap (λ (s : SeatState). s.served) c.other.view_is ∙ (c.requires.other ∙ sym (ap (λ (s : SeatState). s.served) c.one.view_is ∙ c.requires.one)) in
    let table = c.into_badge.ensures.0 ∙ (c.split_seat-second.ensures.0 ∙ (c.load.ensures.0 ∙ (c.join_seat.ensures.0 ∙ (c.token_out-both.ensures.table ∙ theirs)))) in
    (λ i. seat_state (table i) (views i)) ∙ c.one.view_is

pub returns-clause-other : goal.returns-clause-other
returns-clause-other g c =
    let t = seat_of c.one.inside.badge.views in
    let u = seat_of c.other.inside.badge.views in
    let together = joined_token _ _ _ t u (c.token_out-both.ensures.seat u c.other.invariant.alone) (c.token_out-first.ensures.seat t c.one.invariant.alone) c.join_seat.ensures.2 in
    let views = c.into_badge-2.ensures.2 ∙ (ap (λ (m : Token). m.0 ∷ []) c.split_seat-second.ensures.4 ∙ (ap (λ (m : Token). others_of m.0 ∷ []) ((c.load.ensures.2 t u together).0 ∙ together) ∙ sym c.other.invariant.alone)) in
    let table = c.into_badge-2.ensures.0 ∙ (c.split_seat-second.ensures.3 ∙ (c.load.ensures.0 ∙ (c.join_seat.ensures.0 ∙ c.token_out-both.ensures.table))) in
    (λ i. seat_state (table i) (views i)) ∙ c.other.view_is

pub returns-clause-met : goal.returns-clause-met
returns-clause-met g c =
    let t = seat_of c.one.inside.badge.views in
    let u = seat_of c.other.inside.badge.views in
    let together = joined_token _ _ _ t u (c.token_out-both.ensures.seat u c.other.invariant.alone) (c.token_out-first.ensures.seat t c.one.invariant.alone) c.join_seat.ensures.2 in
    subst (λ (s : SeatState). HaveMet c.args.one.now.state s.state) c.other.view_is (subst (λ (s : SeatState). HaveMet s.state u) c.one.view_is (c.load.ensures.2 t u together).1)
