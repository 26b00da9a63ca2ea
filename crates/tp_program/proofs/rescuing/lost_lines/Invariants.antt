use Rattle.std.proofs.Common.{◌≡◌, ◌++◌, drop}
use Rattle.std.specs.String.{string_bytes}
use Rattle.tp_program.specs.Rescuing.{lost_lines}
use Rattle.tp_program.proofs.rescuing.lost_lines.Given as goal

-- the lines so far, and those of the records that are left, are all lines
abbrev pub invariant-loop-record : goal.invariant-loop-record
invariant-loop-record l =
    string_bytes l.lines ++ lost_lines l.document.applied l.beyond l.to (drop l.record-index l.records) ≡ lost_lines l.document.applied l.from l.to l.records
