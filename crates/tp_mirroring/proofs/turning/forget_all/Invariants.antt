use Rattle.std.proofs.Common.{None}
use Rattle.tp_mirror.specs.Mirroring.{IsKept}
use Rattle.tp_mirroring.proofs.turning.forget_all.Given as goal

-- the state file has the state
abbrev pub invariant-loop-at : goal.invariant-loop-at
invariant-loop-at g l = IsKept l.folder.seen l.state None

abbrev pub decreases-loop-at : goal.decreases-loop-at
decreases-loop-at g l = l.at
