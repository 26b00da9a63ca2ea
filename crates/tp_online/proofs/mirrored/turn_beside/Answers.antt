use Rattle.std.proofs.Common.{inr}
use Rattle.tp_online.proofs.BesideLaws.{given_back, mirrored_steps}
use Rattle.tp_online.proofs.mirrored.turn_beside.Goals as goal

pub end_turn-requires-clause-steps : goal.end_turn-requires-clause-steps
end_turn-requires-clause-steps g c = mirrored_steps _ _ _ _ _ _ c.begin_turn-absence.ensures.out c.turn_if_running-peer.ensures

pub returns-clause-turned : goal.returns-clause-turned
returns-clause-turned g c =
    inr (given_back (g.R.Folders.saw c.args.rt.now) _ c.args.seat.state c.begin_turn-absence.result.0 c.begin_turn-absence.result.1 c.turn_if_running-peer.result.0 c.end_turn.result c.begin_turn-absence.ensures.out c.begin_turn-absence.ensures.seat c.turn_if_running-peer.ensures c.end_turn.ensures.gave)
