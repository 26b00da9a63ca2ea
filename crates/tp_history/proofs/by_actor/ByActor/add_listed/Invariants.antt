use Rattle.tp_history.proofs.Common.{◌⊎◌, keys_of, AllIn, In, Actor}
use Rattle.tp_history.proofs.by_actor.ByActor.add_listed.Given as goal

-- each actor with a list is still to come, or there
abbrev pub invariant-loop-actor : goal.invariant-loop-actor
invariant-loop-actor l = record {
  before : AllIn l.initial.actors.items l.actors.items;
  listed : (a : Actor) → In a (keys_of l.self.lists.entries) → In a l.actor-iterator ⊎ In a l.actors.items;
}
