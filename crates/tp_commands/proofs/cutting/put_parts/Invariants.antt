use Rattle.tp_edit.specs.Splices.{count_of_splice}
use Rattle.tp_commands.proofs.PartLaws.{ArePartsBefore}
use Rattle.tp_commands.proofs.cutting.put_parts.Given as goal

-- the parts so far are those before the rest
abbrev pub invariant-cutting : goal.invariant-cutting
invariant-cutting l = ArePartsBefore l.fn.stretch l.rest l.fn.parts.items l.parts.items

abbrev pub decreases-cutting : goal.decreases-cutting
decreases-cutting l = count_of_splice l.rest
