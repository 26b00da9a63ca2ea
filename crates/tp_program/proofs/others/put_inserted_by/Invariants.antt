use Rattle.std.proofs.Common.{◌≡◌, ◌++◌, take}
use Rattle.std.specs.List.{flat_map}
use Rattle.std.specs.String.{string_bytes}
use Rattle.tp_program.specs.Rescuing.{inserted_run}
use Rattle.tp_program.proofs.others.put_inserted_by.Given as goal

-- what the records so far inserted
abbrev pub invariant-loop-entry : goal.invariant-loop-entry
invariant-loop-entry l = string_bytes l.text ≡ string_bytes l.fn.text ++ flat_map inserted_run (take l.entry-index l.entry-items)
