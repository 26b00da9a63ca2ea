use Rattle.std.proofs.Common.{take}
use Rattle.tp_window.specs.Answers.{AreShownChanges}
use Rattle.tp_window.proofs.writing.shown_changes.Given as goal

-- the shown changes so far are the changes so far
abbrev pub invariant-loop-change : goal.invariant-loop-change
invariant-loop-change l = AreShownChanges (take l.change-index l.part) l.shown.items
