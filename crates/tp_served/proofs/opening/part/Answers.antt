use Rattle.tp_served.proofs.Common.{[], ◌∷◌, ◌++◌, ◌-◌, ◌<◌, ap, sym, ◌∙◌, subst, arith, refl, new_seat, fresh_from, seat_state, Token, first_view_of, others_of}
use Rattle.tp_served.proofs.RuleLaws.{splits_at}
use Rattle.tp_served.proofs.TokenLaws.{seat_at}
use Rattle.tp_served.proofs.SeatLaws.{first_fresh, others_fresh, seats_push}
use Rattle.tp_served.proofs.opening.part.Goals as goal

pub split_seat-others-requires : goal.split_seat-others-requires
split_seat-others-requires g c =
    let p = c.requires.joined in (
      c.loop-number.invariant.table,
      subst (λ n. 0 < n) (sym c.requires.word) (omega arith),
      splits_at _ _ _ _ (fresh_from p.0 c.loop-number.number (c.args.count - c.loop-number.number)) (ap (λ (m : Token). m.0) (c.loop-number.invariant.joined p.0 p.1)),
    )

pub invariant_of-push_reserved : goal.invariant_of-push_reserved
invariant_of-push_reserved g c =
    let p = c.requires.joined in
    seat_at _ _ _ (new_seat p.0 c.loop-number.number)
    (c.into_badge.ensures.2 ∙ (ap (λ (m : Token). m.0 ∷ []) c.split_seat-others.ensures.2 ∙ (ap (λ (m : Token). first_view_of m.0 ∷ []) (c.loop-number.invariant.joined p.0 p.1) ∙ ap (λ v. v ∷ []) (first_fresh p.0 c.loop-number.number c.args.count c.loop-number-test.true))))
    refl

pub loop-number-preserved : goal.loop-number-preserved
loop-number-preserved g c =
    let here = c.split_seat-others.ensures.3 ∙ c.loop-number.invariant.table in
    record {
      table = here;
      joined = λ p is. c.split_seat-others.ensures.4 ∙ (ap (λ (m : Token). (let x : Token = (others_of m.0, []) in x)) (c.loop-number.invariant.joined p is) ∙ ap (λ v. (let x : Token = (v, []) in x)) (others_fresh p c.loop-number.number c.args.count c.loop-number-test.true));
      seats = λ p is.
          let views = c.into_badge.ensures.2 ∙ (ap (λ (m : Token). m.0 ∷ []) c.split_seat-others.ensures.2 ∙ (ap (λ (m : Token). first_view_of m.0 ∷ []) (c.loop-number.invariant.joined p is) ∙ ap (λ v. v ∷ []) (first_fresh p c.loop-number.number c.args.count c.loop-number-test.true))) in
          let table = c.into_badge.ensures.0 ∙ (c.split_seat-others.ensures.0 ∙ c.loop-number.invariant.table) in
          c.push_reserved.ensures.items ∙ ((λ i. c.loop-number.invariant.seats p is i ++ seat_state (table i) (views i) ∷ []) ∙ seats_push c.args.table.now.shared.table_id p c.loop-number.number);
      room = omega (arith, c.push_reserved.ensures.len, c.push_reserved.ensures.capacity, c.loop-number.invariant.room, c.loop-number-test.true);
    }
