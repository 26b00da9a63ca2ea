use Rattle.std.proofs.Common.{take}
use Rattle.tp_window.specs.Windows.{MadeOn}
use Rattle.tp_window.proofs.showing.made_on.Given as goal

-- what was made by the changes so far
abbrev pub invariant-loop-change : goal.invariant-loop-change
invariant-loop-change l = MadeOn l.fn.actor l.fn.heads (take l.change-index l.changes) l.made
