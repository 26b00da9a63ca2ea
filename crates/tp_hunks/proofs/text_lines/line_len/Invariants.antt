use Rattle.std.proofs.Common.{◌≡◌, ◌+◌, drop}
use Rattle.tp_hunks.specs.Lines.{line_len}
use Rattle.tp_hunks.proofs.text_lines.line_len.Given as goal

-- no newline is among the characters so far
abbrev pub invariant-loop-ch : goal.invariant-loop-ch
invariant-loop-ch l = record {
  so_far : l.len ≡ l.ch-index;
  none : l.len + line_len (drop l.ch-index l.text) ≡ line_len l.text;
}
