use Rattle.tp_net.proofs.Common.{SeatKnowledge, AttemptsSession}
use Rattle.std.proofs.Common.{rules, inl, inr}
use Rattle.tp_net.proofs.Counting.{meets}
use Rattle.tp_net.proofs.holding.hold_counted.Goals as goal

-- the session counted what the seat entered
pub returns-clause-meets : goal.returns-clause-meets
returns-clause-meets g c =
    let w = c.run_session-result.ensures.session in
    let t : SeatKnowledge = c.new-host.result.seat.now.state in
    let t' : SeatKnowledge = c.run_session-result.new.host.seat.now.state in
    let fact : AttemptsSession c.args.role c.id-id.result t c.run_session-result.result t' = meets c.args.role c.id-id.result t c.run_session-result.result t' (w.0, w.3) in
    search (rules, rw c.id-id.ensures at fact)

-- what was written are the frames that it sent
pub returns-clause-frames : goal.returns-clause-frames
returns-clause-frames g c = let w = c.run_session-result.ensures.session in elim w.2 [ inl io ↦ inl io | inr wrote ↦ inr (w.0.sent, wrote) ]
