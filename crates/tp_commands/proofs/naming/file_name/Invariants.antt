use Rattle.std.proofs.Common.{◌≡◌}
use Rattle.std.specs.List.{flat_map}
use Rattle.std.specs.String.{string_bytes}
use Rattle.tp_commands.specs.Naming.{name_char}
use Rattle.tp_commands.proofs.naming.file_name.Given as goal

-- the characters so far are in the name
abbrev pub invariant-loop-ch : goal.invariant-loop-ch
invariant-loop-ch l = string_bytes l.name ≡ flat_map name_char l.yielded
