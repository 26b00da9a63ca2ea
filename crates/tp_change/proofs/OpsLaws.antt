-- The operations of a change, by place: how many they are, and their identifiers.
use Rattle.std.proofs.Common.{◌≡◌, ℕ, zero, suc, ◌+◌, ◌<◌, List, [], ◌∷◌, ◌++◌, length, map, get_or, refl, sym, ap, ◌∙◌, subst, arith}
use Rattle.std.proofs.lemmas.List.{map-append}
use Rattle.std.specs.declared.cmp.Ordering.TheVariants.{Less}
use Rattle.tp_list.specs.Rising.{IsBelowAll, IsRising}
use Rattle.tp_opid.specs.declared.actor.Actor.{Actor}
use Rattle.tp_opid.specs.declared.op_id.OpId.{OpId}
use Rattle.tp_opid.specs.declared.op_id.Place.{Place}
use Rattle.tp_opid.specs.declared.op_id.Place.TheVariants.{After}
use Rattle.tp_opid.specs.Order.{id_cmp}
use Rattle.tp_opid.proofs.Orders.{id_cmp-counter}
use Rattle.tp_change.specs.declared.op.Op.{Op}
use Rattle.tp_layout.specs.declared.record.Record.{Record}
use Rattle.tp_layout.specs.declared.record.Record.TheVariants as record_of
use Rattle.tp_layout.specs.declared.parts.ChangeParts.{ChangeParts}
use Rattle.tp_layout.specs.Counts.{count_in, count_of}
use Rattle.tp_change.specs.Operations.{id_of, run, deletes_from, ops_in, ops_from, ops_of, op_count}
use Rattle.tp_change.specs.OpIds.{op_id, ids_from}

-- ---- the identifiers, as a list

-- identifiers in a row, cut in two
ids_from-append : (a : Actor) (n j k : ℕ) → ids_from a n (j + k) ≡ ids_from a n j ++ ids_from a (n + j) k
ids_from-append a n zero k =
    let e : zero + k ≡ k = omega arith in
    let f : n + zero ≡ n = omega arith in
    rw (e, f) refl
ids_from-append a n (suc j) k =
    let e : suc j + k ≡ suc (j + k) = omega arith in
    let f : n + suc j ≡ (n + 1) + j = omega arith in
    rw (e, f) (ap (λ ids. id_of a n ∷ ids) (ids_from-append a (n + 1) j k))

-- those of a run
ids-run : (a : Actor) (n : ℕ) (after : Place) (text : List ℕ) → map op_id (run a n after text) ≡ ids_from a n (length text)
ids-run a n after [] = refl
ids-run a n after (ch ∷ text) = ap (λ ids. id_of a n ∷ ids) (ids-run a (n + 1) (After (id_of a n)) text)

-- those of a run of deletes
ids-deletes_from : (a : Actor) (n : ℕ) (target : OpId) (count : ℕ) → map op_id (deletes_from a n target count) ≡ ids_from a n count
ids-deletes_from a n target zero = refl
ids-deletes_from a n target (suc count) = ap (λ ids. id_of a n ∷ ids) (ids-deletes_from a (n + 1) (id_of target.actor (target.counter + 1)) count)

-- those of a record
ids-ops_in : (a : Actor) (n : ℕ) (r : Record) → map op_id (ops_in a n r) ≡ ids_from a n (count_in r)
ids-ops_in a n (record_of.Insert after text) = ids-run a n after text
ids-ops_in a n (record_of.Delete target) = refl
ids-ops_in a n (record_of.DeleteRun first count) = ids-deletes_from a n first count

-- those of records
ids-ops_from : (a : Actor) (n : ℕ) (rs : List Record) → map op_id (ops_from a n rs) ≡ ids_from a n (count_of rs)
ids-ops_from a n [] = refl
ids-ops_from a n (r ∷ rs) =
    map-append op_id (ops_in a n r) (ops_from a (n + count_in r) rs) ∙ ap (λ ids. ids ++ map op_id (ops_from a (n + count_in r) rs)) (ids-ops_in a n r) ∙ ap (λ ids. ids_from a n (count_in r) ++ ids) (ids-ops_from a (n + count_in r) rs) ∙ sym (ids_from-append a n (count_in r) (count_of rs))

-- the identifiers of a change's operations: its actor's, with counters from its start on
pub ids-ops_of : (c : ChangeParts) → map op_id (ops_of c) ≡ ids_from c.actor c.start (op_count c)
unfolding ops_of op_count
ids-ops_of c = ids-ops_from c.actor c.start c.records

-- ---- how many

-- there are as many as were asked for
pub length-ids_from : (a : Actor) (n k : ℕ) → length (ids_from a n k) ≡ k
length-ids_from a n zero = refl
length-ids_from a n (suc k) = ap suc (length-ids_from a (n + 1) k)

-- each operation has one
length-ids : (ops : List Op) → length (map op_id ops) ≡ length ops
length-ids [] = refl
length-ids (op ∷ ops) = ap suc (length-ids ops)

-- a change has as many operations as its records count
pub length-ops_of : (c : ChangeParts) → length (ops_of c) ≡ op_count c
length-ops_of c = sym (length-ids (ops_of c)) ∙ ap length (ids-ops_of c) ∙ length-ids_from c.actor c.start (op_count c)

-- ---- by place

-- the identifier at a place
pub get_or-ids_from : (a : Actor) (n k j : ℕ) (d : OpId) → j < k → get_or (ids_from a n k) j d ≡ id_of a (n + j)
get_or-ids_from a n zero j d lt = absurd (omega arith)
get_or-ids_from a n (suc k) zero d lt = let e : n + zero ≡ n = omega arith in rw e refl
get_or-ids_from a n (suc k) (suc j) d lt =
    let e : n + suc j ≡ (n + 1) + j = omega arith in
    rw e (get_or-ids_from a (n + 1) k j d (omega arith))

-- ---- in order

-- of one actor's identifiers the one with the lower counter is below
id_below : (a : Actor) (n m : ℕ) → n < m → id_cmp (id_of a n) (id_of a m) ≡ Less
id_below a n m lt = id_cmp-counter (id_of a n) (id_of a m) lt

-- an identifier is below those in a row after it
ids_below : (a : Actor) (n m k : ℕ) → n < m → IsBelowAll id_cmp (id_of a n) (ids_from a m k)
ids_below a n m zero lt = tt
ids_below a n m (suc k) lt = (id_below a n m lt, ids_below a n (m + 1) k (omega arith))

-- identifiers in a row rise
ids_rise : (a : Actor) (n k : ℕ) → IsRising id_cmp (ids_from a n k)
ids_rise a n zero = tt
ids_rise a n (suc k) = (ids_below a n (n + 1) k (omega arith), ids_rise a (n + 1) k)

-- the identifiers rise: each is below all that come after it
pub ops_rise : (c : ChangeParts) → IsRising id_cmp (map op_id (ops_of c))
ops_rise c = subst (IsRising id_cmp) (sym (ids-ops_of c)) (ids_rise c.actor c.start (op_count c))
