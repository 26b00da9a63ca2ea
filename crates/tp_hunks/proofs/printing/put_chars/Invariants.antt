use Rattle.std.proofs.Common.{◌≡◌, ◌++◌, take}
use Rattle.std.specs.List.{flat_map}
use Rattle.std.specs.Prelude.{encode_utf8}
use Rattle.std.specs.String.{string_bytes}
use Rattle.tp_hunks.proofs.printing.put_chars.Given as goal

-- the characters so far are after the text
abbrev pub invariant-loop-ch : goal.invariant-loop-ch
invariant-loop-ch l = string_bytes l.text ≡ string_bytes l.fn.text ++ flat_map encode_utf8 (take l.ch-index l.line)
