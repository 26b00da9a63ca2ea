use Rattle.tp_session.proofs.ReadingLaws.{ReadsOn}
use Rattle.tp_session.proofs.parts.read_on.Given as goal

abbrev pub invariant-fields : goal.invariant-fields
invariant-fields l = ReadsOn l.fn.reader l.piece l.at l.taking

abbrev pub decreases-fields : goal.decreases-fields
decreases-fields l = l.taking.left
