use Rattle.tp_history.proofs.Common.{◌≡◌, ◌++◌, ◌∷◌, [], inl, sym, subst, rest_all, rest_more, keys_of, deref, In, In-left}
use Rattle.std.proofs.Common.{rules}
use Rattle.tp_history.proofs.ListedLaws.{listed_more, listed_all}
use Rattle.tp_history.proofs.by_actor.ByActor.add_listed.Goals as goal

pub loop-actor-init : goal.loop-actor-init
loop-actor-init c =
    let is : c.into_iter-actor-iterator.result ≡ keys_of c.args.self.now.lists.entries = search rules in
    record { before = λ a i. i; listed = λ a i. inl (subst (In a) (sym is) i) }

pub loop-actor-preserved : goal.loop-actor-preserved
loop-actor-preserved c =
    let step = rest_more deref c.loop-actor.actor-iterator c.next.new.self c.next.result c.in-Some.actor c.in-Some.is c.next.ensures.steps in
    let grown : c.push.new.self.items ≡ c.loop-actor.actors.items ++ c.in-Some.actor.now ∷ [] = search rules in
    record {
      before = λ a i. subst (In a) (sym grown) (In-left a c.loop-actor.actors.items (c.in-Some.actor.now ∷ []) (c.loop-actor.invariant.before a i));
      listed = λ a i. listed_more a c.in-Some.actor.now c.loop-actor.actor-iterator c.next.new.self c.loop-actor.actors.items c.push.new.self.items step grown (c.loop-actor.invariant.listed a i);
    }

pub returns-clause-before : goal.returns-clause-before
returns-clause-before c = c.loop-actor.invariant.before

pub returns-clause-listed : goal.returns-clause-listed
returns-clause-listed c = λ a i.
    listed_all a c.loop-actor.actor-iterator c.loop-actor.actors.items (rest_all deref c.loop-actor.actor-iterator c.next.new.self c.next.result c.in-None.is c.next.ensures.steps) (c.loop-actor.invariant.listed a i)
