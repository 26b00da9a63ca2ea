use Rattle.std.proofs.Common.{take}
use Rattle.std.specs.List.{flat_map}
use Rattle.tp_opid.specs.declared.hash.Hash.{Hash}
use Rattle.tp_layout.specs.Puts.{Puts}
use Rattle.tp_layout.proofs.writing.put_hashes.Given as goal

abbrev pub invariant-loop-hash : goal.invariant-loop-hash
invariant-loop-hash g l = Puts g.S.Sink.holds l.fn.out l.out (flat_map (λ (h : Hash). h.0) (take l.hash-index l.hashes))
