use Rattle.tp_served.proofs.Common.{[], ◌∷◌, ◌++◌, ap, sym, ◌∙◌, subst, PeerState, ServedState, states_of, Token, Closes}
use mathlib.Core.Option as maybe
use Rattle.tp_served.proofs.RuleLaws.{closes_at, not_idle}
use Rattle.tp_served.proofs.TokenLaws.{some_same}
use Rattle.tp_served.proofs.SeatLaws.{length_states}
use Rattle.tp_served.proofs.served.Served.end.Goals as goal

pub unreachable-requires : goal.unreachable-requires
unreachable-requires g c =
    let final = closes_at _ _ _ _ (states_of (c.args.seats.items ++ c.args.last ∷ [])) _ _ (ap (λ (m : Token). m.0) c.join_all-joined.ensures.joined)
    (length_states (c.args.seats.items ++ c.args.last ∷ []) ∙ (c.requires.all ∙ sym (ap (λ (s : ServedState). s.count) c.self.view_is))) c.close_with-closed.ensures.values.2 in
    not_idle final.0 (maybe.some-injective _ _ (sym final.1 ∙ c.take-peer.ensures.value) ∙ c.in-None.is)

pub returns : goal.returns
returns g c =
    let states = states_of (c.args.seats.items ++ c.args.last ∷ []) in
    let final = closes_at _ _ _ _ states _ _ (ap (λ (m : Token). m.0) c.join_all-joined.ensures.joined)
    (length_states (c.args.seats.items ++ c.args.last ∷ []) ∙ (c.requires.all ∙ sym (ap (λ (s : ServedState). s.count) c.self.view_is))) c.close_with-closed.ensures.values.2 in
    let same = some_same final.0 c.in-Some.peer (maybe.some-injective _ _ (sym final.1 ∙ c.take-peer.ensures.value) ∙ c.in-Some.is) in
    subst (λ (p : PeerState). Closes c.args.self.opened c.args.self.count states p) same
    (subst (λ (s : ServedState). Closes s.opened s.count states final.0) c.self.view_is final.2)
