use Rattle.std.proofs.Common.{◌≡◌}
use Rattle.tp_mirroring.proofs.folder.Folder.sound_moved.Given as goal

-- the folder is as it was
abbrev pub invariant-loop-away : goal.invariant-loop-away
invariant-loop-away g l = l.self ≡ l.fn.self
