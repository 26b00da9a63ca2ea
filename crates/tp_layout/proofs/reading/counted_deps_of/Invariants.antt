use Rattle.std.proofs.Common.{◌≡◌, ◌-◌, None}
use Rattle.tp_codec.specs.Reading.{repeat_at}
use Rattle.tp_codec.proofs.Loops.{with_prefix}
use Rattle.tp_layout.specs.Reading.{dep_at, next_before}
use Rattle.tp_layout.proofs.reading.counted_deps_of.Given as goal

abbrev pub invariant-loop : goal.invariant-loop
invariant-loop l = with_prefix l.deps.items (repeat_at dep_at next_before (l.count - l.counter) l.before l.reader) ≡ repeat_at dep_at next_before l.count None l.fn.reader
