-- The identifiers of a change's operations.
use Rattle.std.specs.Prelude.{◌≡◌, ℕ, zero, suc, ◌+◌, ◌<◌, ◌≤◌, List, [], ◌∷◌}
use Rattle.tp_opid.specs.declared.actor.Actor.{Actor}
use Rattle.tp_opid.specs.declared.op_id.OpId.{OpId}
use Rattle.tp_change.specs.declared.op.Op.{Op}
use Rattle.tp_change.specs.declared.op.Op.TheVariants.{Insert, Delete}
use Rattle.tp_layout.specs.declared.parts.ChangeParts.{ChangeParts}
use Rattle.tp_change.specs.Operations.{id_of, op_count}

-- the identifier of an operation
abbrev pub op_id : Op → OpId
op_id (Insert id after ch) = id
op_id (Delete id target) = id

-- identifiers of an actor, as many as the second number says, with counters from the first one on
abbrev pub ids_from : Actor → ℕ → ℕ → List OpId
ids_from actor n zero = []
ids_from actor n (suc count) = id_of actor n ∷ ids_from actor (n + 1) count

-- the identifier is one of the change's: by its actor, with a counter from the start on
pub record IsOwnId (c : ChangeParts) (id : OpId) : Type 0 where
  pub actor : id.actor ≡ c.actor
  pub from : c.start ≤ id.counter
  pub to : id.counter < c.start + op_count c
