use Rattle.std.proofs.Common.{◌≡◌, length, take, min}
use Rattle.std.specs.List.{flat_map}
use Rattle.tp_layout.specs.Spelling.{framed_change}
use Rattle.tp_store.proofs.saved.entries_len.Given as goal

abbrev pub invariant-loop-change : goal.invariant-loop-change
invariant-loop-change l = l.total ≡ min 18446744073709551615 (length (flat_map framed_change (take l.change-index l.changes)))
