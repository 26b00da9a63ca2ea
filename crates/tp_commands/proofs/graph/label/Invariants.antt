use Rattle.std.proofs.Common.{◌≡◌}
use Rattle.std.specs.List.{flat_map}
use Rattle.std.specs.String.{string_bytes}
use Rattle.tp_commands.specs.Graph.{label_char}
use Rattle.tp_commands.proofs.graph.label.Given as goal

-- the characters so far are in the label
abbrev pub invariant-loop-ch : goal.invariant-loop-ch
invariant-loop-ch l = string_bytes l.label ≡ flat_map label_char l.yielded
