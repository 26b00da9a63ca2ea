use Rattle.std.proofs.Common.{◌≡◌, take}
use Rattle.tp_hunks.specs.Hunks.{hunks_of_groups}
use Rattle.tp_hunks.proofs.LineLists.{texts}
use Rattle.tp_hunks.proofs.trimming.hunks_in.Given as goal

-- the hunks so far are those of the groups so far
abbrev pub invariant-loop-group : goal.invariant-loop-group
invariant-loop-group l = l.hunks.items ≡ hunks_of_groups (texts l.old) (texts l.new) (take l.group-index l.groups)
