use Rattle.std.proofs.Common.{map, take}
use Rattle.tp_program.specs.Rescuing.{AreOthers}
use Rattle.tp_program.proofs.others.read_others.Given as goal

-- what is there so far is of the files so far
abbrev pub invariant-loop-path : goal.invariant-loop-path
invariant-loop-path g l = AreOthers (g.D.Folders.saw l.rt) (map (λ p. p.now) (take l.path-index l.paths)) l.others.changes.items l.others.ids.items
