use Rattle.std.proofs.Common.{◌≤◌, drop, length, reverse}
use Rattle.std.specs.String.{string_bytes}
use Rattle.tp_commands.specs.Pretty.{ArePrettyLines}
use Rattle.tp_commands.proofs.pretty.pretty_changes.Given as goal

-- the lines so far are those of the changes that aren't left
abbrev pub invariant-loop-left : goal.invariant-loop-left
invariant-loop-left l = record {
  within : l.left ≤ length l.changes;
  lines : ArePrettyLines (reverse (drop l.left l.changes)) (string_bytes l.lines);
}

abbrev pub decreases-loop-left : goal.decreases-loop-left
decreases-loop-left l = l.left
