-- References judged record by record.
use Rattle.std.specs.Prelude.{ℕ, zero, suc, ◌+◌, List, [], ◌∷◌, ◌++◌, length, Bool, true, false, ◌||◌, ◌&&◌, nat_lt, nat_le}
use Rattle.tp_graph.specs.Common.{Actor, OpId, Record, id_of, ops_from, inserts_in, is_inserted, is_reference}
use Rattle.tp_opid.specs.Insert as element_of
use Rattle.tp_layout.specs.declared.record.Record.TheVariants.{Insert, Delete, DeleteRun}

-- The records, the first of which has the counter n, insert at the counter k.
abbrev pub covers : ℕ → List Record → ℕ → Bool
covers n [] k = false
covers n (Insert after text ∷ rs) k = (nat_le n k && nat_lt k (n + length text)) || covers (n + length text) rs k
covers n (Delete target ∷ rs) k = covers (n + 1) rs k
covers n (DeleteRun first count ∷ rs) k = covers (n + count) rs k

-- No record is a delete or a run of deletes.
abbrev pub only_inserts : List Record → Bool
only_inserts [] = true
only_inserts (Insert after text ∷ rs) = only_inserts rs
only_inserts (Delete target ∷ rs) = false
only_inserts (DeleteRun first count ∷ rs) = false

-- The element and those of the same actor with the next counters, n together, are among S.
abbrev pub all_inserted : List element_of.Insert → OpId → ℕ → Bool
all_inserted S target zero = true
all_inserted S target (suc count) = is_inserted S target && all_inserted S (id_of target.actor (target.counter + 1)) count

-- The reference or each target of the record is among S.
abbrev pub is_there : List element_of.Insert → Record → Bool
is_there S (Insert after text) = is_reference S after
is_there S (Delete target) = is_inserted S target
is_there S (DeleteRun first count) = all_inserted S first count

-- The reference or each target of each record of rs is among S, or inserted by a record before it.
abbrev pub all_there : Actor → ℕ → List element_of.Insert → List Record → List Record → Bool
all_there a n S before [] = true
all_there a n S before (r ∷ rs) = is_there (inserts_in (ops_from a n before) ++ S) r && all_there a n S (before ++ r ∷ []) rs
