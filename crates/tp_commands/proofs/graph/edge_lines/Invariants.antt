use Rattle.std.proofs.Common.{◌≡◌, take}
use Rattle.std.specs.List.{flat_map}
use Rattle.std.specs.String.{string_bytes}
use Rattle.tp_commands.specs.Graph.{edge_line}
use Rattle.tp_commands.proofs.graph.edge_lines.Given as goal

-- the lines so far are those of the edges so far
abbrev pub invariant-loop-to : goal.invariant-loop-to
invariant-loop-to l = string_bytes l.lines ≡ flat_map (edge_line l.from) (take l.to-index l.deps)
