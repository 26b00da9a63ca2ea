use Rattle.std.proofs.Common.{◌≡◌, ◌++◌, length}
use Rattle.std.specs.List.{All}
use Rattle.tp_c.specs.Heads.{IsWhole, hash_bytes}
use Rattle.tp_c.proofs.hashes.hashes_of.Given as goal

-- the hashes are those at the front
abbrev pub invariant-loop-hash : goal.invariant-loop-hash
invariant-loop-hash l = record {
  parts : l.bytes ≡ hash_bytes l.hashes.items ++ l.rest;
  whole : All IsWhole l.hashes.items;
}

abbrev pub decreases-loop-hash : goal.decreases-loop-hash
decreases-loop-hash l = length l.rest
