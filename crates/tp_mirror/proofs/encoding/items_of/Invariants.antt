use Rattle.std.proofs.Common.{◌≡◌, ◌-◌}
use Rattle.tp_codec.proofs.Loops.{with_prefix}
use Rattle.tp_mirror.specs.StateFile.{items_at}
use Rattle.tp_mirror.proofs.encoding.items_of.Given as goal

abbrev pub invariant-loop : goal.invariant-loop
invariant-loop g l = with_prefix l.items.items (items_at g.T.Encoded.field (l.count - l.counter) l.reader) ≡ items_at g.T.Encoded.field l.count l.fn.reader
