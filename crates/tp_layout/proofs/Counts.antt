-- How many operations records have.
use Rattle.std.proofs.Common.{◌≡◌, ℕ, ◌+◌, ◌≤◌, ◌<◌, List, [], ◌∷◌, length, get_or, drop, sym, ap, ◌∙◌, arith}
use Rattle.std.proofs.lemmas.List.{at_drop_more}
use Rattle.std.specs.List.{AllByRecursion}
use Rattle.tp_layout.specs.declared.record.Record.{Record}
use Rattle.tp_layout.specs.declared.record.Record.TheVariants.{Insert, Delete, DeleteRun}
use Rattle.tp_layout.specs.declared.parts.ChangeParts.{ChangeParts}
use Rattle.tp_layout.specs.Counts.{count_in, count_of}
use Rattle.tp_layout.specs.Limits.{IsRecord, IsChange}

-- a record has an operation
pub one-le-count_in : (r : Record) → IsRecord r → 1 ≤ count_in r
one-le-count_in (Insert after text) h = h.2
one-le-count_in (Delete target) h = omega arith
one-le-count_in (DeleteRun first count) h = omega (arith, h.1)

-- there are no more records than operations
pub length-le-count_of : (rs : List Record) → AllByRecursion IsRecord rs → length rs ≤ count_of rs
length-le-count_of [] h = omega arith
length-le-count_of (r ∷ rs) h =
    let one : 1 ≤ count_in r = one-le-count_in r h.0 in
    let more : length rs ≤ count_of rs = length-le-count_of rs h.1 in
    omega arith

-- a change has few records
pub few_records : (c : ChangeParts) → IsChange c → length c.records ≤ 65536
few_records c h = let all = length-le-count_of c.records h.records in omega (arith, h.operations)

-- the operations of records from one on
pub count_of_drop : (rs : List Record) (i : ℕ) (r : Record) → i < length rs → r ≡ get_or rs i r → count_of (drop i rs) ≡ count_in r + count_of (drop (i + 1) rs)
count_of_drop rs i r lt here =
    at_drop_more count_of rs i r lt ∙ ap (λ x. count_in x + count_of (drop (i + 1) rs)) (sym here)
