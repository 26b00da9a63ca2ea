use Rattle.std.proofs.Common.{◌≡◌, ◌+◌, ◌<◌, ◌^◌, ◌++◌, drop}
use Rattle.tp_hunks.specs.Lines.{new_passed, old_passed}
use Rattle.tp_hunks.specs.Touching.{touched_from, touched_lines}
use Rattle.tp_hunks.proofs.touching.touched_lines.Given as goal

-- the groups so far, and those from the open one on, are all; and no line is past those that all steps pass
abbrev pub invariant-loop-step : goal.invariant-loop-step
invariant-loop-step l = record {
  made : l.groups.items ++ touched_from l.group (drop l.step-index l.step-items) ≡ touched_lines l.steps;
  old : l.group.old_last + old_passed (drop l.step-index l.step-items) < 2 ^ 63;
  new : l.group.new_last + new_passed (drop l.step-index l.step-items) < 2 ^ 63;
}
