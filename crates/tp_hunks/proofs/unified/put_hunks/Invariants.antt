use Rattle.std.proofs.Common.{◌≡◌, ◌++◌, drop}
use Rattle.std.specs.String.{string_bytes}
use Rattle.tp_hunks.specs.Unified.{changed_lines}
use Rattle.tp_hunks.proofs.LineLists.{texts}
use Rattle.tp_hunks.proofs.unified.put_hunks.Given as goal

-- what is put after the text, and the lines of the hunks that are left, are those of all
abbrev pub invariant-loop-hunk : goal.invariant-loop-hunk
invariant-loop-hunk l =
    string_bytes l.text ++ changed_lines (texts l.old) (texts l.new) l.context l.from (drop l.hunk-index l.hunks)
    ≡ string_bytes l.fn.text ++ changed_lines (texts l.old) (texts l.new) l.context l.at l.hunks
