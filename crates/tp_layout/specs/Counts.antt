-- How many operations records are.
use Rattle.std.specs.Prelude.{ℕ, ◌+◌, List, [], ◌∷◌, length}
use Rattle.tp_layout.specs.declared.record.Record.{Record}
use Rattle.tp_layout.specs.declared.record.Record.TheVariants.{Insert, Delete, DeleteRun}

-- how many operations a record is: one for each inserted character, one for each delete
abbrev pub count_in : Record → ℕ
count_in (Insert after text) = length text
count_in (Delete target) = 1
count_in (DeleteRun first count) = count

-- how many operations the records are
abbrev pub count_of : List Record → ℕ
count_of [] = 0
count_of (r ∷ rs) = count_in r + count_of rs
