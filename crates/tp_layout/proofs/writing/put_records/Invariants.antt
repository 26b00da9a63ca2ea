use Rattle.std.proofs.Common.{take}
use Rattle.std.specs.List.{flat_map}
use Rattle.tp_layout.specs.Puts.{Puts}
use Rattle.tp_layout.specs.Spelling.{spelling_of_record}
use Rattle.tp_layout.proofs.writing.put_records.Given as goal

abbrev pub invariant-loop-entry : goal.invariant-loop-entry
invariant-loop-entry g l = Puts g.S.Sink.holds l.fn.out l.out (flat_map spelling_of_record (take l.entry-index l.records))
