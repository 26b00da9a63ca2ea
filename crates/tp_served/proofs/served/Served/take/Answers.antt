use Rattle.tp_served.proofs.Common.{[], ◌∷◌, ap, sym, ◌∙◌, subst, ◌<◌, arith, ServedState, idle_seat, Token}
use Rattle.tp_served.proofs.RuleLaws.{tries, not_idle}
use Rattle.tp_served.proofs.TokenLaws.{any_step, slot_has, slot_out, token_is, tried_miss, tried_take, turn_is}
use Rattle.tp_served.proofs.served.Served.take.Goals as goal

pub compare_exchange-requires : goal.compare_exchange-requires
compare_exchange-requires g c =
    let t = c.requires.seat in
    let e = c.into_seat-token.ensures in (
      e.0 ∙ (c.requires.served ∙ sym (ap (λ (s : ServedState). s.served) c.self.view_is)),
      subst (λ n. 0 < n) (sym c.self.invariant.0) (omega arith),
      tries _ _ _ _ any_step _ t.0 (token_is (idle_seat t.0) c.into_seat-token.result.me c.args.badge.views e.2 t.1 e.3),
    )

pub into_badge-requires : goal.into_badge-requires
into_badge-requires g c =
    let t = c.requires.seat in
    let e = c.into_seat-token.ensures in
    ap (λ (x : Token). x.1) (tried_miss any_step _ _ _ t.0 c.compare_exchange.ensures.2 c.if-compare_exchange-ne0.true (token_is (idle_seat t.0) c.into_seat-token.result.me c.args.badge.views e.2 t.1 e.3))

pub returns-then-compare_exchange-ne0-clause-missed : goal.returns-then-compare_exchange-ne0-clause-missed
returns-then-compare_exchange-ne0-clause-missed g c =
    let e = c.into_seat-token.ensures in (
      c.into_badge.ensures.0 ∙ (c.compare_exchange.ensures.0 ∙ (e.0 ∙ c.requires.served)),
      λ t is. c.into_badge.ensures.2 ∙ ap (λ (x : Token). x.0 ∷ []) (tried_miss any_step _ _ _ t c.compare_exchange.ensures.2 c.if-compare_exchange-ne0.true (token_is (idle_seat t) c.into_seat-token.result.me c.args.badge.views e.2 is e.3)),
    )

pub exchange-requires : goal.exchange-requires
exchange-requires g c =
    let t = c.requires.seat in
    let e = c.into_seat-token.ensures in (
      c.compare_exchange.ensures.0 ∙ (e.0 ∙ (c.requires.served ∙ sym (ap (λ (s : ServedState). s.served) c.self.view_is))),
      slot_out t.0 _ (tried_take any_step _ _ _ t.0 c.compare_exchange.ensures.2 c.if-compare_exchange-ne0.false (token_is (idle_seat t.0) c.into_seat-token.result.me c.args.badge.views e.2 t.1 e.3)),
    )

pub unreachable-requires : goal.unreachable-requires
unreachable-requires g c =
    let t = c.requires.seat in
    let e = c.into_seat-token.ensures in
    let takes = tried_take any_step _ _ _ t.0 c.compare_exchange.ensures.2 c.if-compare_exchange-ne0.false (token_is (idle_seat t.0) c.into_seat-token.result.me c.args.badge.views e.2 t.1 e.3) in
    not_idle takes.found (sym (slot_has t.0 _ _ takes c.exchange.ensures.2) ∙ c.in-None.is)

pub returns-clause-taken : goal.returns-clause-taken
returns-clause-taken g c =
    let e = c.into_seat-token.ensures in (
      c.exchange.ensures.0 ∙ (c.compare_exchange.ensures.0 ∙ (e.0 ∙ c.requires.served)),
      λ t is. turn_is t _ _ _ _ (tried_take any_step _ _ _ t c.compare_exchange.ensures.2 c.if-compare_exchange-ne0.false (token_is (idle_seat t) c.into_seat-token.result.me c.args.badge.views e.2 is e.3))
          c.exchange.ensures.2 c.exchange.ensures.3 c.in-Some.is,
    )
