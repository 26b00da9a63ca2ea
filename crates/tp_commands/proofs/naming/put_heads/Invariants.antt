use Rattle.std.proofs.Common.{◌≡◌, ◌++◌, take}
use Rattle.std.specs.List.{flat_map}
use Rattle.std.specs.String.{string_bytes}
use Rattle.tp_commands.specs.Naming.{head_tag}
use Rattle.tp_commands.proofs.naming.put_heads.Given as goal

-- the heads so far are after the name
abbrev pub invariant-loop-head : goal.invariant-loop-head
invariant-loop-head l = string_bytes l.name ≡ string_bytes l.fn.name ++ flat_map head_tag (take l.head-index l.heads)
