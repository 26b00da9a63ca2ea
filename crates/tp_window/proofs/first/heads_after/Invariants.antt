use Rattle.std.proofs.Common.{◌≡◌, take}
use Rattle.tp_history.specs.Heads.{heads}
use Rattle.tp_window.proofs.first.heads_after.Given as goal

-- the heads of the changes so far
abbrev pub invariant-loop-change : goal.invariant-loop-change
invariant-loop-change l = l.heads.items ≡ heads (take l.change-index l.changes)
