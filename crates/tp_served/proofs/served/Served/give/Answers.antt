use Rattle.tp_served.proofs.Common.{[], ◌∷◌, ap, sym, ◌∙◌, subst, ◌<◌, arith, ServedState, Token}
use Rattle.tp_served.proofs.RuleLaws.{gives_back}
use Rattle.tp_served.proofs.TokenLaws.{any_step, put_is}
use Rattle.tp_served.proofs.served.Served.give.Goals as goal

pub store-requires : goal.store-requires
store-requires g c =
    let t = c.requires.turn.0 in
    let h = c.requires.turn.1 in (
      c.exchange.ensures.0 ∙ (c.requires.served ∙ sym (ap (λ (s : ServedState). s.served) c.self.view_is)),
      subst (λ n. 0 < n) (sym c.self.invariant.0) (omega arith),
      gives_back _ _ _ _ 0 any_step _ t h c.args.turn.peer (put_is t h c.args.turn.peer _ _ c.requires.turn.2 c.exchange.ensures.3) c.requires.turn.3,
    )

pub into_badge-requires : goal.into_badge-requires
into_badge-requires g c =
    let t = c.requires.turn.0 in
    let h = c.requires.turn.1 in
    ap (λ (x : Token). x.1) (c.store.ensures.2 t h c.args.turn.peer (put_is t h c.args.turn.peer _ _ c.requires.turn.2 c.exchange.ensures.3))

pub returns-clause-given : goal.returns-clause-given
returns-clause-given g c = λ t h is. c.into_badge.ensures.2 ∙ ap (λ (x : Token). x.0 ∷ []) (c.store.ensures.2 t h c.args.turn.peer (put_is t h c.args.turn.peer _ _ is c.exchange.ensures.3))
