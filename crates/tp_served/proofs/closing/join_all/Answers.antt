use Rattle.tp_served.proofs.Common.{[], ◌∷◌, ◌++◌, ◌<◌, ap, sym, ◌∙◌, subst, arith, List, SeatState, states_of, idle_seat, seat_of, Token, join_views, AreOf}
use Rattle.tp_served.proofs.RuleLaws.{joins_at}
use Rattle.tp_served.proofs.TokenLaws.{token_is}
use Rattle.tp_served.proofs.SeatLaws.{AreOf-push, states_last, states_push}
use Rattle.tp_served.proofs.closing.join_all.Goals as goal

pub loop-seat-init : goal.loop-seat-init
loop-seat-init g c = record {
  table = c.into_seat-joined.ensures.0 ∙ (ap (λ (s : SeatState). s.served) c.last.view_is ∙ c.requires.last);
  rest = seat_of c.last.inside.badge.views ∷ [];
  joined = token_is (idle_seat (seat_of c.last.inside.badge.views)) c.into_seat-joined.result.me c.last.inside.badge.views c.into_seat-joined.ensures.2 c.last.invariant.alone c.into_seat-joined.ensures.3;
  all = states_last c.args.seats.items c.args.last ∙ ap (λ (s : SeatState). states_of c.args.seats.items ++ s.state ∷ []) (sym c.last.view_is);
  here = c.requires.seats;
}

pub join_seat-requires : goal.join_seat-requires
join_seat-requires g c =
    let here = AreOf-push c.args.table.now.shared.table_id c.pop.new.self.items c.in-Some.seat (subst (AreOf c.args.table.now.shared.table_id) c.in-Some.ensures.items c.loop-seat.invariant.here) in
    let token = token_is (idle_seat (seat_of c.seat.inside.badge.views)) c.into_seat.result.me c.seat.inside.badge.views c.into_seat.ensures.2 c.seat.invariant.alone c.into_seat.ensures.3 in (
      c.loop-seat.invariant.table,
      c.into_seat.ensures.0 ∙ (ap (λ (s : SeatState). s.served) c.seat.view_is ∙ here.1),
      c.into_seat.ensures.3,
      subst (λ n. 0 < n) (sym c.requires.word) (omega arith),
      joins_at _ _ _ _ _ _ c.loop-seat.invariant.rest (seat_of c.seat.inside.badge.views ∷ []) (ap (λ (m : Token). m.0) c.loop-seat.invariant.joined) (ap (λ (m : Token). m.0) token),
    )

pub loop-seat-preserved : goal.loop-seat-preserved
loop-seat-preserved g c =
    let here = AreOf-push c.args.table.now.shared.table_id c.pop.new.self.items c.in-Some.seat (subst (AreOf c.args.table.now.shared.table_id) c.in-Some.ensures.items c.loop-seat.invariant.here) in
    let token = token_is (idle_seat (seat_of c.seat.inside.badge.views)) c.into_seat.result.me c.seat.inside.badge.views c.into_seat.ensures.2 c.seat.invariant.alone c.into_seat.ensures.3 in
    record {
      table = c.join_seat.ensures.0 ∙ c.loop-seat.invariant.table;
      rest = seat_of c.seat.inside.badge.views ∷ c.loop-seat.invariant.rest;
      joined = c.join_seat.ensures.2 ∙ (λ i. (let x : Token = (join_views (c.loop-seat.invariant.joined i).0 (token i).0, (c.loop-seat.invariant.joined i).1) in x));
      all = c.loop-seat.invariant.all ∙ (ap (λ (l : List SeatState). states_of l ++ c.loop-seat.invariant.rest) c.in-Some.ensures.items ∙ (states_push c.pop.new.self.items c.in-Some.seat c.loop-seat.invariant.rest
          ∙ ap (λ (s : SeatState). states_of c.pop.new.self.items ++ s.state ∷ c.loop-seat.invariant.rest) (sym c.seat.view_is)));
      here = here.0;
    }
