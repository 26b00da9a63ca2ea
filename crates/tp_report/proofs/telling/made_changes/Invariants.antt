use Rattle.std.proofs.Common.{◌≡◌, take}
use Rattle.std.specs.List.{flat_map}
use Rattle.std.specs.String.{string_bytes}
use Rattle.tp_report.specs.Names.{change_made_line}
use Rattle.tp_report.proofs.telling.made_changes.Given as goal

-- the lines so far are those of the hashes so far
abbrev pub invariant-loop-hash : goal.invariant-loop-hash
invariant-loop-hash l = string_bytes l.lines ≡ flat_map change_made_line (take l.hash-index l.hashes)
