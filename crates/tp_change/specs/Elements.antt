-- The elements that changes insert and delete, whether references and targets are among them, and the counters.
use Rattle.std.specs.Prelude.{ℕ, ◌+◌, if◌then◌else◌, nat_lt, List, [], ◌∷◌, ◌++◌, Bool, true, false, ◌||◌, ◌&&◌}
use Rattle.tp_opid.specs.declared.op_id.OpId.{OpId}
use Rattle.tp_opid.specs.declared.op_id.Place.{Place}
use Rattle.tp_opid.specs.declared.op_id.Place.TheVariants.{Start, After}
use Rattle.tp_opid.specs.Insert.{Insert}
use Rattle.tp_opid.specs.Same.{id_eq}
use Rattle.tp_change.specs.declared.op.Op.{Op}
use Rattle.tp_change.specs.declared.op.Op.TheVariants as op_of
use Rattle.tp_layout.specs.declared.parts.ChangeParts.{ChangeParts}
use Rattle.tp_change.specs.Operations.{ops_of, op_count}

-- the insert as an element of the sequence
abbrev pub element : OpId → Place → ℕ → Insert
element id after ch = record { id = id; after = after; ch = ch }

-- the inserts among operations, in order
abbrev pub inserts_in : List Op → List Insert
inserts_in [] = []
inserts_in (op_of.Insert id after ch ∷ ops) = element id after ch ∷ inserts_in ops
inserts_in (op_of.Delete id target ∷ ops) = inserts_in ops

-- the inserts of changes, in order
abbrev pub inserts : List ChangeParts → List Insert
inserts [] = []
inserts (c ∷ C) = inserts_in (ops_of c) ++ inserts C

-- the deletes among operations, in order: the target, and the operation that deletes it
abbrev pub deletes_in : List Op → List (OpId × OpId)
deletes_in [] = []
deletes_in (op_of.Insert id after ch ∷ ops) = deletes_in ops
deletes_in (op_of.Delete id target ∷ ops) = (target, id) ∷ deletes_in ops

-- the deletes of changes, in order
abbrev pub deletes : List ChangeParts → List (OpId × OpId)
deletes [] = []
deletes (c ∷ C) = deletes_in (ops_of c) ++ deletes C

-- one of the inserts has the identifier
abbrev pub is_inserted : List Insert → OpId → Bool
is_inserted [] id = false
is_inserted (x ∷ S) id = id_eq x.id id || is_inserted S id

-- the reference is the start, or after one of the inserts
abbrev pub is_reference : List Insert → Place → Bool
is_reference S Start = true
is_reference S (After id) = is_inserted S id

-- Each reference and each target is among S or was inserted by an operation before.
abbrev pub refers : List Insert → List Op → Bool
refers S [] = true
refers S (op_of.Insert id after ch ∷ ops) = is_reference S after && refers (element id after ch ∷ S) ops
refers S (op_of.Delete id target ∷ ops) = is_inserted S target && refers S ops

-- the greater of two numbers
abbrev pub later : ℕ → ℕ → ℕ
later a b = if nat_lt a b then b else a

-- 1 plus the greatest counter of the changes, or 1 where there is none
abbrev pub next_counter : List ChangeParts → ℕ
next_counter [] = 1
next_counter (c ∷ C) = later (c.start + op_count c) (next_counter C)
