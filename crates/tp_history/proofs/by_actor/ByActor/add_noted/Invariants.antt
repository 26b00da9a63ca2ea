use Rattle.tp_history.proofs.Common.{ℕ, ◌⊎◌, values_of, AllIn, In, HasActorAt}
use Rattle.tp_history.proofs.by_actor.ByActor.add_noted.Given as goal

-- each noted place is still to come, or its actor is there
abbrev pub invariant-loop-place : goal.invariant-loop-place
invariant-loop-place l = record {
  before : AllIn l.initial.actors.items l.actors.items;
  noted : (p : ℕ) → In p (values_of l.self.firsts.entries) → In p l.place-iterator ⊎ HasActorAt l.changes p l.actors.items;
}
