use Rattle.tp_served.proofs.Common.{[], ◌∷◌, ◌+◌, ap, ◌∙◌, SeatKnowledge, missed_by, idle_seat}
use Rattle.tp_served.proofs.TokenLaws.{missed_more}
use Rattle.tp_served.proofs.served.Served.wait.Goals as goal

pub returns-in-Ok-clause-taken : goal.returns-in-Ok-clause-taken
returns-in-Ok-clause-taken g c = λ t is. let k = c.loop.invariant.seat t is in (k.0, c.in-Ok.ensures.taken.1 (missed_by k.0 t) k.1)

pub loop-preserved : goal.loop-preserved
loop-preserved g c = record {
  can = tt;
  finite = tt;
  served = c.in-Err.ensures.missed.0;
  seat = λ t is. let k = c.loop.invariant.seat t is in (k.0 + 1, c.in-Err.ensures.missed.1 (missed_by k.0 t) k.1 ∙ ap (λ (u : SeatKnowledge). idle_seat u ∷ []) (missed_more k.0 t));
}
