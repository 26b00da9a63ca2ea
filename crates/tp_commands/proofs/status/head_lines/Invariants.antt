use Rattle.std.proofs.Common.{◌≡◌, ◌++◌, codes, length, take}
use Rattle.std.specs.Fmt.{decimal}
use Rattle.std.specs.List.{flat_map}
use Rattle.std.specs.String.{string_bytes}
use Rattle.tp_commands.specs.Status.{head_line}
use Rattle.tp_list.specs.Bytes.{line}
use Rattle.tp_commands.proofs.status.head_lines.Given as goal

-- the lines so far are those of the heads so far
abbrev pub invariant-loop-head : goal.invariant-loop-head
invariant-loop-head l = string_bytes l.lines ≡ line (codes "heads " ++ decimal (length l.heads)) ++ flat_map head_line (take l.head-index l.heads)
