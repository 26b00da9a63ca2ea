use Rattle.std.proofs.Common.{◌≡◌, length, take, min}
use Rattle.std.specs.List.{flat_map}
use Rattle.tp_opid.specs.declared.hash.Hash.{Hash}
use Rattle.tp_layout.proofs.size.hashes_len.Given as goal

abbrev pub invariant-loop-hash : goal.invariant-loop-hash
invariant-loop-hash l = l.total ≡ min 18446744073709551615 (length (flat_map (λ (h : Hash). h.0) (take l.hash-index l.hashes)))
