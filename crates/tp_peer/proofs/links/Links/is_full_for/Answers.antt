use Rattle.tp_peer.proofs.Common.{◌≡◌, length, sym}
use Rattle.tp_peer.proofs.LinkLaws.{new_is_one_too_many, old_is_none_too_many}
use Rattle.tp_peer.proofs.links.Links.is_full_for.Goals as goal

pub returns-in-Some : goal.returns-in-Some
returns-in-Some c = rw (← c.self.view_is, ← c.deref.ensures.value) (sym (old_is_none_too_many _ c.args.link.0 c.in-Some.field-0 c.in-Some.ensures))

pub returns-in-None : goal.returns-in-None
returns-in-None c =
    let len : c.len.result ≡ length c.deref.result.now = cc in
    rw (← c.self.view_is, ← c.deref.ensures.value, len) (new_is_one_too_many _ c.args.link.0 c.in-None.ensures)
