use Rattle.tp_ancestry.proofs.Common.{take, HasEnds, past_changes}
use Rattle.tp_ancestry.proofs.ancestry.Ancestry.ends.Given as goal

-- the ends of the actors so far
abbrev pub invariant-loop-actor : goal.invariant-loop-actor
invariant-loop-actor l = HasEnds (past_changes l.past_set l.self.changes) l.clock (take l.actor-index l.actors)
