use Rattle.tp_mirroring.proofs.TurnLaws.{taken_on}
use Rattle.tp_mirroring.proofs.turning.do_turn.Goals as goal

pub returns-clause-taken : goal.returns-clause-taken
returns-clause-taken g c = taken_on _ _ _ _ _ _ c.end_of_turn.ensures c.end-peer.ensures.taken
