use Rattle.std.specs.String.{string_bytes}
use Rattle.tp_disk.specs.Opening.{MayCutFile}
use Rattle.tp_mirroring.proofs.job.mirror.Given as goal

-- what was cut off is what the first opening kept
abbrev pub invariant-loop : goal.invariant-loop
invariant-loop g l = MayCutFile (g.D.Folders.saw l.rt) (string_bytes l.paths.file) l.cut
