use Rattle.std.proofs.Common.{◌≡◌}
use Rattle.tp_mirroring.proofs.folder.Folder.sound_texts.Given as goal

-- the folder is as it was
abbrev pub invariant-loop-known : goal.invariant-loop-known
invariant-loop-known g l = l.self ≡ l.fn.self
