use Rattle.std.proofs.Common.{◌≡◌, ◌++◌, map, take}
use Rattle.std.specs.String.{string_bytes}
use Rattle.tp_hunks.specs.Unified.{file_lines_text}
use Rattle.tp_hunks.proofs.unified.put_lines.Given as goal

-- the lines so far are after the text
abbrev pub invariant-loop-line : goal.invariant-loop-line
invariant-loop-line l = string_bytes l.text ≡ string_bytes l.fn.text ++ file_lines_text l.sign (map (λ x. x.now) (take l.line-index l.lines))
