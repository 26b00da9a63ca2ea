use Rattle.std.proofs.Common.{◌≡◌, map, take}
use Rattle.std.specs.List.{flat_map}
use Rattle.std.specs.String.{string_bytes}
use Rattle.tp_hunks.specs.Printing.{hunk_lines}
use Rattle.tp_hunks.proofs.printing.hunk_texts.Given as goal

-- the lines so far are those of the hunks so far
abbrev pub invariant-loop-hunk : goal.invariant-loop-hunk
invariant-loop-hunk l = string_bytes l.text ≡ flat_map (hunk_lines (map (λ x. x.now) l.old) (map (λ x. x.now) l.new)) (take l.hunk-index l.hunks)
