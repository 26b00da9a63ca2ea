use Rattle.std.proofs.Common.{◌≡◌, ◌-◌}
use Rattle.tp_codec.specs.Reading.{repeat_at}
use Rattle.tp_codec.proofs.Loops.{with_prefix}
use Rattle.tp_layout.specs.Reading.{record_at, room_after}
use Rattle.tp_layout.proofs.reading.counted_records_of.Given as goal

abbrev pub invariant-loop : goal.invariant-loop
invariant-loop l = with_prefix l.records.items (repeat_at (record_at l.runs) room_after (l.count - l.counter) l.left l.reader) ≡ repeat_at (record_at l.runs) room_after l.count l.room l.fn.reader
