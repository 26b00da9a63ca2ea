use Rattle.tp_session.proofs.Common.{inr, refl, sym, arith, ◌∙◌, err_from_is_err_and, PartsBefore, SessionState, at_frame}
use Rattle.tp_session.proofs.Hearing.{part_ends, part_on, part_refuses}
use Rattle.tp_session.proofs.conversation.take_frame.Goals as goal

pub returns-in_err-part-clause-err : goal.returns-in_err-part-clause-err
returns-in_err-part-clause-err g c = λ came is going.
    let far = c.loop.invariant.0 came is in
    let given = c.in_err-part.ensures.exact (record { came = came; opened = far.0 }) far.1.kept in
    grind arith

pub returns-in_default-clause-ok : goal.returns-in_default-clause-ok
returns-in_default-clause-ok g c = λ came is.
    let far = c.loop.invariant.0 came is in
    let given = c.in_ok-part.ensures.exact (record { came = came; opened = far.0 }) far.1.kept in
    (came, grind arith, grind arith)

pub returns-in_err-turn-clause-err : goal.returns-in_err-turn-clause-err
returns-in_err-turn-clause-err g c = λ came is going.
    let p = err_from_is_err_and c.from_residual-in_err-turn.result c.from_residual-in_err-turn.ensures.1 in
    let far = c.loop.invariant.0 came is in
    let led : PartsBefore = record { came = came; opened = far.0 } in
    let given = rw c.in-Some.is at (c.in_ok-part.ensures.exact led far.1.kept) in
    let a : SessionState × g.H.Host.Seen = (at_frame c.args.session.now, g.H.Host.seen c.args.host.now) in
    let b : SessionState × g.H.Host.Seen = (c.on_part.new.self, g.H.Host.seen c.on_part.new.host) in
    let step = rw far.2 at (c.in_err-turn.ensures.step a.0 far.0 far.1.reading) in
    rw p.1 (inr (part_refuses g.H.Host.steps a led given.0 c.in-Some.part c.next.new.self c.in_err-turn.field-0.0 p.0 b going p.2 far.1.bytes given.1 given.2 step))

pub returns-then-last-clause-ok : goal.returns-then-last-clause-ok
returns-then-last-clause-ok g c = λ came is.
    let far = c.loop.invariant.0 came is in
    let led : PartsBefore = record { came = came; opened = far.0 } in
    let given = rw c.in-Some.is at (c.in_ok-part.ensures.exact led far.1.kept) in
    let a : SessionState × g.H.Host.Seen = (at_frame c.args.session.now, g.H.Host.seen c.args.host.now) in
    let b : SessionState × g.H.Host.Seen = (c.on_part.new.self, g.H.Host.seen c.on_part.new.host) in
    let step = rw far.2 at (c.in_ok-turn.ensures.step a.0 far.0 far.1.reading) in
    let taken = part_ends g.H.Host.steps a led given.0 c.in-Some.part c.next.new.self c.in_ok-turn.turn b (sym c.is_last-last.ensures ∙ c.if-last.true) refl far.1.bytes given.1 given.2 step in
    (given.0.came, taken.1, taken.0)

pub loop-preserved : goal.loop-preserved
loop-preserved g c = (
  λ came is.
      let far = c.loop.invariant.0 came is in
      let led : PartsBefore = record { came = came; opened = far.0 } in
      let given = rw c.in-Some.is at (c.in_ok-part.ensures.exact led far.1.kept) in
      let a : SessionState × g.H.Host.Seen = (at_frame c.args.session.now, g.H.Host.seen c.args.host.now) in
      let b : SessionState × g.H.Host.Seen = (c.on_part.new.self, g.H.Host.seen c.on_part.new.host) in
      let step = rw far.2 at (c.in_ok-turn.ensures.step a.0 far.0 far.1.reading) in
      let on = part_on g.H.Host.steps a led given.0 c.in-Some.part c.next.new.self c.in_ok-turn.turn b (sym c.is_last-last.ensures ∙ c.if-last.false) far.1.bytes given.1 given.2 step in
      (on.0.0, on.0.1, on.1),
  g.met.H.Host.joins _ _ _ c.loop.invariant.1 c.on_part.ensures.host,
)

-- as many parts as can be counted came
pub returns-clause-err : goal.returns-clause-err
returns-clause-err g c = λ came is going. let far = c.loop.invariant.0 came is in grind arith
