use Rattle.tp_event.proofs.Common.{List, sym, subst, ChangeParts, HashesAreNoted, MadeState, hash_of, is_noted, ◌≡◌, true}
use Rattle.tp_event.proofs.MadeLaws.{noted_push}
use Rattle.tp_event.proofs.made.Made.push_reserved.Goals as goal

pub invariant_of-self : goal.invariant_of-self
invariant_of-self c =
    subst (λ (l : List ChangeParts). HashesAreNoted l c.self.inside.hashes.keys) (sym c.push_reserved.ensures.items)
    (noted_push c.self.inside.changes.items c.self.inside.hashes.keys c.args.change c.self.invariant
    (subst (λ (m : MadeState). is_noted m.noted (hash_of c.args.change) ≡ true) (sym c.self.view_is) c.requires.noted))
