-- The operations of a change (Automerge's operation identifiers: a counter and an actor).
use Rattle.std.specs.Prelude.{ℕ, zero, suc, ◌+◌, List, [], ◌∷◌, ◌++◌}
use Rattle.tp_opid.specs.declared.actor.Actor.{Actor}
use Rattle.tp_opid.specs.declared.op_id.OpId.{OpId}
use Rattle.tp_opid.specs.declared.op_id.Place.{Place}
use Rattle.tp_opid.specs.declared.op_id.Place.TheVariants.{After}
use Rattle.tp_layout.specs.declared.record.Record.{Record}
use Rattle.tp_layout.specs.declared.record.Record.TheVariants as record_of
use Rattle.tp_change.specs.declared.op.Op.{Op}
use Rattle.tp_change.specs.declared.op.Op.TheVariants as op_of
use Rattle.tp_layout.specs.declared.parts.ChangeParts.{ChangeParts}
use Rattle.tp_layout.specs.Counts.{count_in, count_of}

-- the identifier of an actor's operation
abbrev pub id_of : Actor → ℕ → OpId
id_of actor counter = record { counter = counter; actor = actor }

-- The inserts of a run whose first counter is n: the first character is placed after the reference, each later one
-- after the one before it.
abbrev pub run : Actor → ℕ → Place → List ℕ → List Op
run actor n after [] = []
run actor n after (ch ∷ text) = op_of.Insert (id_of actor n) after ch ∷ run actor (n + 1) (After (id_of actor n)) text

-- `count` deletes whose first counter is n: the first deletes the target, each later one the element of the same actor
-- with the next counter.
abbrev pub deletes_from : Actor → ℕ → OpId → ℕ → List Op
deletes_from actor n target zero = []
deletes_from actor n target (suc count) = op_of.Delete (id_of actor n) target ∷ deletes_from actor (n + 1) (id_of target.actor (target.counter + 1)) count

-- the operations of a record whose first counter is n
abbrev pub ops_in : Actor → ℕ → Record → List Op
ops_in actor n (record_of.Insert after text) = run actor n after text
ops_in actor n (record_of.Delete target) = op_of.Delete (id_of actor n) target ∷ []
ops_in actor n (record_of.DeleteRun first count) = deletes_from actor n first count

-- the operations of records whose first counter is n: the counters run on from record to record
abbrev pub ops_from : Actor → ℕ → List Record → List Op
ops_from actor n [] = []
ops_from actor n (r ∷ rs) = ops_in actor n r ++ ops_from actor (n + count_in r) rs

-- the operations of a change: operation j, counted from 0, has the identifier (start + j, actor)
unfoldable pub ops_of : ChangeParts → List Op
ops_of c = ops_from c.actor c.start c.records

-- how many operations a change has
unfoldable pub op_count : ChangeParts → ℕ
op_count c = count_of c.records
