use Rattle.tp_c.proofs.FlatLaws.{AreBegun}
use Rattle.tp_c.proofs.splices.splices_of.Given as goal

abbrev pub invariant-loop-numbers : goal.invariant-loop-numbers
invariant-loop-numbers l = AreBegun l.flat l.texts l.numbers-index l.splices.items l.rest
