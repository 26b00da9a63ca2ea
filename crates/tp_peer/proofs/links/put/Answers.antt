use Rattle.tp_peer.proofs.Common.{◌≡◌, ℕ, ap, ◌∙◌, refl, SyncParts}
use Rattle.tp_peer.proofs.LinkLaws.{at_with}
use Rattle.tp_peer.proofs.links.put.Goals as goal

pub returns : goal.returns
returns c =
    let L = c.args.links.now.items in
    let n : c.index_mut.result.now.0 ≡ c.args.number = ap (λ (l : ℕ × SyncParts). l.0) c.index_mut.ensures.value ∙ c.requires.number c.index_mut.result.now in
    rw (n, at_with L c.args.number c.args.index c.args.state c.requires) refl
