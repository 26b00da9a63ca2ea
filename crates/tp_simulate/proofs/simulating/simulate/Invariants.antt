use Rattle.tp_simulate.proofs.ScriptLaws.{Going}
use Rattle.tp_simulate.proofs.simulating.simulate.Given as goal

-- the lines before this one were carried out and printed
abbrev pub invariant-loop-number : goal.invariant-loop-number
invariant-loop-number g l = Going l.number l.stage.world l.stage.marks.items (g.W.Write.contents l.fn.writer) (g.W.Write.contents l.writer)
