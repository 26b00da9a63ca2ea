use Rattle.tp_peer.proofs.Common.{sym}
use Rattle.tp_peer.proofs.LinkLaws.{links_without, at_without, none_without}
use Rattle.tp_peer.proofs.links.Links.forget.Goals as goal

pub invariant_of-self : goal.invariant_of-self
invariant_of-self c =
    let gone = at_without c.deref.result.now c.args.link.0 c.in-Some.i (rw c.deref.ensures.value c.self.invariant.once) c.in-Some.ensures in
    rw (c.take_out.ensures, ← c.deref.ensures.value, ← gone) (links_without c.deref.result.now c.args.link.0 (rw c.deref.ensures.value c.self.invariant))

pub returns-in-Some : goal.returns-in-Some
returns-in-Some c =
    let gone = at_without c.deref.result.now c.args.link.0 c.in-Some.i (rw c.deref.ensures.value c.self.invariant.once) c.in-Some.ensures in
    rw (c.take_out.ensures, ← c.self.view_is, ← c.deref.ensures.value) (sym gone)

pub returns-in_default : goal.returns-in_default
returns-in_default c = rw (← c.self.view_is, ← c.deref.ensures.value) (sym (none_without c.deref.result.now c.args.link.0 c.in_default.ensures))
