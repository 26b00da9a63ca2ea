use Rattle.tp_event.proofs.Common.{◌≡◌, List, Option, true, arith, sym, subst, Hash, ChangeParts, HashesAreNoted, IsNotedFor, is_noted}
use Rattle.tp_opid.specs.Order.{hash_cmp}
use Rattle.tp_opid.specs.Same.{same_hash}
use Rattle.tp_event.proofs.MadeLaws.{noted_more, noted_now}
use Rattle.tp_event.proofs.made.Made.prepare.Goals as goal

pub invariant_of-self-in_ok-insert : goal.invariant_of-self-in_ok-insert
unfolding same_hash hash_cmp
invariant_of-self-in_ok-insert c =
    subst (λ (l : List ChangeParts). HashesAreNoted l c.insert.new.self.keys) (sym c.reserve.ensures.items)
    (noted_more c.self.inside.changes.items c.self.inside.hashes.keys c.insert.new.self.keys c.hash.result c.self.invariant c.in_ok-insert.ensures.updates.0)

pub returns-in_ok-insert-clause-ready : goal.returns-in_ok-insert-clause-ready
unfolding same_hash hash_cmp
returns-in_ok-insert-clause-ready c =
    let noted = c.insert.new.self.keys in
    record {
      room = omega (arith, c.in_ok-reserve.ensures.ok);
      noted = subst (λ (o : Option ChangeParts). IsNotedFor noted o) (sym c.in-Some.is)
          (subst (λ (h : Hash). is_noted noted h ≡ true) c.hash.ensures.hash (noted_now c.self.inside.hashes.keys noted c.hash.result c.in_ok-insert.ensures.updates.0));
    }
