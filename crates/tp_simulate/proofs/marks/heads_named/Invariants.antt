use Rattle.std.proofs.Common.{◌≡◌, None, drop}
use Rattle.std.specs.Option.{option_map}
use Rattle.tp_simulate.specs.Marks.{latest}
use Rattle.tp_simulate.proofs.marks.heads_named.Given as goal

-- what is left decides which mark is the latest
abbrev pub invariant-loop-mark : goal.invariant-loop-mark
invariant-loop-mark l = latest l.name (option_map (λ heads. heads.now) l.found) (drop l.mark-index l.marks) ≡ latest l.name None l.marks
