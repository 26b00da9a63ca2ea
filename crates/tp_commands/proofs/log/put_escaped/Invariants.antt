use Rattle.std.proofs.Common.{◌≡◌, ◌++◌}
use Rattle.std.specs.List.{flat_map}
use Rattle.std.specs.String.{string_bytes}
use Rattle.tp_commands.specs.Log.{escaped_char}
use Rattle.tp_commands.proofs.log.put_escaped.Given as goal

-- the characters so far are after the line
abbrev pub invariant-loop-ch : goal.invariant-loop-ch
invariant-loop-ch l = string_bytes l.line ≡ string_bytes l.fn.line ++ flat_map escaped_char l.yielded
