use Rattle.std.proofs.Common.{◌≡◌}
use Rattle.std.specs.Io.KnownBytes.{Keeps}
use Rattle.tp_textpeer.proofs.input.read_chunk.Given as goal

-- an interrupted read took nothing
abbrev pub invariant-loop : goal.invariant-loop
invariant-loop g l = record {
  buffer : l.buffer.items ≡ l.initial.buffer.items;
  reader : Keeps (g.R.Read.remaining l.initial.reader) (g.R.Read.remaining l.reader);
}
