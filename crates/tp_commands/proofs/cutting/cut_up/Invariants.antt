use Rattle.std.proofs.Common.{take}
use Rattle.tp_commands.specs.Cutting.{AreCutUp}
use Rattle.tp_commands.proofs.cutting.cut_up.Given as goal

-- the parts so far are those of the stretches so far
abbrev pub invariant-loop-stretch : goal.invariant-loop-stretch
invariant-loop-stretch l = AreCutUp (take l.stretch-index l.stretches) l.parts.items
