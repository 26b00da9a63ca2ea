use Rattle.std.proofs.Common.{◌≡◌, min, take}
use Rattle.tp_edit.specs.Splices.{total_count}
use Rattle.tp_commands.proofs.updating.group_len.Given as goal

-- the count so far is that of the splices so far, up to the greatest number of `usize`
abbrev pub invariant-loop-at : goal.invariant-loop-at
invariant-loop-at l = l.count ≡ min (total_count (take l.at l.splices)) 18446744073709551615
