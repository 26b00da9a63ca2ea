use Rattle.tp_peer.proofs.LinkLaws.{at_known, none_known}
use Rattle.tp_peer.proofs.links.Links.state_on.Goals as goal

pub returns-in-Ok-clause-known : goal.returns-in-Ok-clause-known
returns-in-Ok-clause-known c =
    rw (← c.self.view_is, ← c.deref.ensures.value, at_known _ c.args.link.0 c.in-Some.i c.index.result.now c.in-Some.ensures, c.deref.ensures.value, ← c.index.ensures) c.in-Ok.ensures.same

pub returns-in-None-clause-known : goal.returns-in-None-clause-known
returns-in-None-clause-known c = rw (← c.self.view_is, ← c.deref.ensures.value, none_known _ c.args.link.0 c.in-None.ensures) c.new.ensures
