use Rattle.std.proofs.Common.{◌≡◌, ◌++◌, take}
use Rattle.std.specs.List.{flat_map}
use Rattle.std.specs.String.{string_bytes}
use Rattle.tp_program.specs.Rescuing.{inserted_runs}
use Rattle.tp_program.proofs.others.put_texts.Given as goal

-- what the changes so far inserted
abbrev pub invariant-loop-change : goal.invariant-loop-change
invariant-loop-change l = string_bytes l.text ≡ string_bytes l.fn.text ++ flat_map inserted_runs (take l.change-index l.changes)
