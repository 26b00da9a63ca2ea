use Rattle.std.proofs.Common.{take}
use Rattle.tp_window.specs.Answers.{ShowDifferences}
use Rattle.tp_window.proofs.writing.shown_of.Given as goal

-- the shown splices so far are the differences so far
abbrev pub invariant-loop-difference : goal.invariant-loop-difference
invariant-loop-difference l = ShowDifferences (take l.difference-index l.differences) l.shown.items
