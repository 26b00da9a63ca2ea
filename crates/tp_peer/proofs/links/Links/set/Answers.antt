use Rattle.tp_peer.proofs.Common.{◌≡◌, false, sym, subst, LinksState, is_one_too_many}
use Rattle.tp_peer.proofs.LinkLaws.{links_with, none_with}
use Rattle.tp_peer.proofs.links.Links.set.Goals as goal

pub invariant_of-self : goal.invariant_of-self
invariant_of-self c =
    rw c.put.ensures
    (links_with c.self.inside.links.items c.args.link.0 c.args.state c.self.invariant
    (subst (λ (s : LinksState). is_one_too_many s.known c.args.link.0 ≡ false) (sym c.self.view_is) c.requires.few))

pub invariant_of-self-in-None : goal.invariant_of-self-in-None
invariant_of-self-in-None c =
    let new = none_with c.deref.result.now c.args.link.0 c.args.state c.in-None.ensures in
    rw (c.push_within.ensures, ← c.deref.ensures.value, ← new, c.deref.ensures.value)
    (links_with c.self.inside.links.items c.args.link.0 c.args.state c.self.invariant
    (subst (λ (s : LinksState). is_one_too_many s.known c.args.link.0 ≡ false) (sym c.self.view_is) c.requires.few))

pub returns-in-None : goal.returns-in-None
returns-in-None c =
    let new = none_with c.deref.result.now c.args.link.0 c.args.state c.in-None.ensures in
    rw (c.push_within.ensures, ← c.self.view_is, ← c.deref.ensures.value) (sym new)
