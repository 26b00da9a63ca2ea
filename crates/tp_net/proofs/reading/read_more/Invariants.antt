use Rattle.tp_net.proofs.Common.{◌≡◌, length, Keeps}
use Rattle.tp_net.proofs.reading.read_more.Given as goal

-- an interrupted read took nothing
abbrev pub invariant-loop : goal.invariant-loop
invariant-loop g l = record {
  chunk : length l.chunk ≡ length l.initial.chunk;
  reader : Keeps (g.R.Read.remaining l.initial.reader) (g.R.Read.remaining l.reader);
}
