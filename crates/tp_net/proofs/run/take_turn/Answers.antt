use Rattle.tp_net.proofs.Common.{◌++◌, arith, inl, inr, refl, ◌∙◌, take, err_from_is_err_and, SessionState}
use Rattle.tp_session.proofs.Transcripts.{unsent}
use Rattle.tp_net.proofs.run.take_turn.Goals as goal

pub returns-in_err-send-clause-err : goal.returns-in_err-send-clause-err
returns-in_err-send-clause-err g c = λ going.
    let p = err_from_is_err_and c.from_residual-in_err-send.result c.from_residual-in_err-send.ensures.1 in
    let breaks = (c.in_err-send.ensures.err going).0 in
    rw (p.1, p.2) (take c.in_ok-len.len c.read_more.new.chunk, c.in_ok-len.ensures.bytes, grind arith)

pub returns-in_err-put-clause-err : goal.returns-in_err-put-clause-err
returns-in_err-put-clause-err g c = λ going.
    let p = err_from_is_err_and c.from_residual-in_err-put.result c.from_residual-in_err-put.ensures.1 in
    let more = take c.in_ok-len.len c.read_more.new.chunk in
    let a : SessionState × g.H.Host.Seen = (c.args.conversation.now.session, g.H.Host.seen c.args.host.now) in
    let b : SessionState × g.H.Host.Seen = (c.feed.new.self.session, g.H.Host.seen c.feed.new.host) in
    let some = rw c.as_slice.ensures.value at c.in_err-put.ensures.err.1 in
    rw (p.1, p.2 ∙ c.in_err-put.ensures.err.0) (more, c.in_ok-len.ensures.bytes, inr (inr (unsent g.H.Host.steps a (c.args.conversation.now.bytes ++ more) c.in_ok-send.field-0.next c.in_ok-send.field-0.send.items b c.feed.new.self.bytes c.in_ok-send.ensures.output some, inl refl)))
