use Rattle.std.proofs.Common.{◌≡◌, ◌++◌, length}
use Rattle.tp_hunks.specs.Lines.{file_lines}
use Rattle.tp_hunks.proofs.LineLists.{texts}
use Rattle.tp_hunks.proofs.text_lines.file_lines.Given as goal

-- the lines so far and those of what is left are all
abbrev pub invariant-loop-rest : goal.invariant-loop-rest
invariant-loop-rest l = texts l.lines.items ++ file_lines l.rest ≡ file_lines l.text

abbrev pub decreases-loop-rest : goal.decreases-loop-rest
decreases-loop-rest l = length l.rest
