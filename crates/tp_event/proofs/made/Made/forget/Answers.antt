use Rattle.tp_event.proofs.Common.{◌∙◌, List, ap, sym, ChangeParts, has}
use Rattle.tp_opid.specs.Order.{hash_cmp}
use Rattle.tp_opid.specs.Same.{same_hash}
use Rattle.tp_event.proofs.MadeLaws.{noted_fewer}
use Rattle.tp_event.proofs.made.Made.forget.Goals as goal

pub invariant_of-self : goal.invariant_of-self
unfolding same_hash hash_cmp
invariant_of-self c =
    let h = c.hash-hash.result in
    noted_fewer c.self.inside.changes.items c.self.inside.hashes.keys c.remove.new.self.keys h c.self.invariant
    (ap (λ (l : List ChangeParts). has l h) (sym c.deref.ensures.value) ∙ sym c.has_hash.ensures ∙ c.if-not-has_hash.true)
    c.remove.ensures.updates.2
