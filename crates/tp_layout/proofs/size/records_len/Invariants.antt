use Rattle.std.proofs.Common.{◌≡◌, length, take, min}
use Rattle.std.specs.List.{flat_map}
use Rattle.tp_layout.specs.Spelling.{spelling_of_record}
use Rattle.tp_layout.proofs.size.records_len.Given as goal

abbrev pub invariant-loop-entry : goal.invariant-loop-entry
invariant-loop-entry l = l.total ≡ min 18446744073709551615 (length (flat_map spelling_of_record (take l.entry-index l.records)))
