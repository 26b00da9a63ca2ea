use Rattle.std.proofs.Common.{◌≡◌, take}
use Rattle.tp_c.specs.Heads.{hash_bytes}
use Rattle.tp_c.proofs.hashes.bytes_of.Given as goal

abbrev pub invariant-loop-hash : goal.invariant-loop-hash
invariant-loop-hash l = l.bytes.items ≡ hash_bytes (take l.hash-index l.hashes)
