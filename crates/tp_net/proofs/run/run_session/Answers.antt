use Rattle.tp_net.proofs.Common.{[], ◌++◌, ap, arith, inl, inr, refl, Err, option_to_list, Appends-nil, Consumes-nil, Forgotten, err_from_is_err_and, refusal_of}
use Rattle.tp_peer.specs.PeerStep.{reply_of_result}
use Rattle.tp_net.proofs.Endings.{sends_more}
use Rattle.tp_net.proofs.run.run_session.Goals.{in-Ok, in-Err}
use Rattle.tp_net.proofs.run.run_session.Goals as goal

pub returns-in_err-forget-clause-session : goal.returns-in_err-forget-clause-session
returns-in_err-forget-clause-session g c =
    let p = err_from_is_err_and c.from_residual.result c.from_residual.ensures.1 in
    rw p.1 (
      record { read = []; sent = [] },
      Consumes-nil (g.R.Read.remaining c.args.reader.now),
      inr (Appends-nil (g.W.Write.contents c.args.writer.now)),
      inl (record { refusal = c.in_err-forget.field-0.0; refused = c.in_err-forget.ensures.reply; reported = ap Err p.2; nothing = refl }),
    )

pub returns-clause-session : goal.returns-clause-session
returns-clause-session g c =
    let s = c.converse.ensures.session in
    let start = g.H.Host.seen c.forget.new.self in
    let left = g.H.Host.seen c.converse.new.host in
    let reply = reply_of_result (λ _. Forgotten) c.forget-2.result in
    elim c.match-converse.branch [
      | in-Ok w ↦ (
        s.0,
        s.1,
        grind arith,
        inr (record { start = start; forgot = c.in_ok-forget.ensures.reply; left = left; session = grind arith; reply = reply; forgot_again = c.forget-2.ensures.reply }),
      )
      | in-Err w ↦
          let t = w.in-Err.ensures.session in (
            record { read = t.0.read; sent = t.0.sent ++ option_to_list (refusal_of w.in-Err.error) },
            t.1,
            grind (arith, sends_more (g.W.Write.contents c.args.writer.now) (g.W.Write.contents c.converse.new.writer) (g.W.Write.contents w.send_refusal.new.writer) t.0.sent),
            inr (record { start = start; forgot = c.in_ok-forget.ensures.reply; left = left; session = rw w.result-is (record { why = w.in-Err.error; before = t.0.sent; stops = t.3; refusal = refl; reported = grind arith }); reply = reply; forgot_again = c.forget-2.ensures.reply }),
          )
    ]
