use Rattle.std.proofs.Common.{◌≡◌, take, drop, None}
use Rattle.std.specs.List.{All}
use Rattle.tp_change.specs.Validated.{rises_after}
use Rattle.tp_layout.specs.Limits.{IsHash}
use Rattle.tp_change.proofs.validating.do_rise.Given as goal

abbrev pub invariant-loop-hash : goal.invariant-loop-hash
invariant-loop-hash l =
    (rises_after l.before (drop l.hash-index l.hashes) ≡ rises_after None l.hashes) × All IsHash (take l.hash-index l.hashes)
