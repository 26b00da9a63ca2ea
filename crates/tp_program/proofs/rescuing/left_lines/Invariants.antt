use Rattle.std.proofs.Common.{◌≡◌, List, [], ◌++◌, drop}
use Rattle.std.specs.String.{string_bytes}
use Rattle.tp_layout.specs.declared.parts.ChangeParts.{ChangeParts}
use Rattle.tp_program.specs.Rescuing.{Names, left_lines}
use Rattle.tp_program.proofs.rescuing.left_lines.Given as goal

-- others were left out before, and the lines so far, and those of the changes that are left, are all lines
abbrev pub invariant-loop-change : goal.invariant-loop-change
invariant-loop-change l = (before : List ChangeParts) × Names l.named.keys before
    × (string_bytes l.lines ++ left_lines l.graph.applied before (drop l.change-index l.changes) ≡ left_lines l.graph.applied [] l.changes)
