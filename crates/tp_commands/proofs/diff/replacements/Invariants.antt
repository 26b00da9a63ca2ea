use Rattle.std.proofs.Common.{take}
use Rattle.tp_commands.specs.Diff.{AreReplacementsOf}
use Rattle.tp_commands.proofs.diff.replacements.Given as goal

-- the replacements so far are those of the differences so far
abbrev pub invariant-loop-difference : goal.invariant-loop-difference
invariant-loop-difference l = AreReplacementsOf l.new (take l.difference-index l.differences) l.all.items
