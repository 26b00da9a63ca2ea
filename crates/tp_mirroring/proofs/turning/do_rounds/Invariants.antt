use Rattle.std.proofs.Common.{None}
use Rattle.tp_mirror.specs.Mirroring.{IsKept}
use Rattle.tp_mirroring.proofs.turning.do_rounds.Given as goal

-- the state file has the state
abbrev pub invariant-loop : goal.invariant-loop
invariant-loop g l = IsKept l.folder.seen l.state None
