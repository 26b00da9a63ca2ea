use Rattle.tp_session.proofs.Common.{◌≡◌, arith, ap, ◌∙◌, after_frame, after_read, frame_at}
use Rattle.tp_frame.proofs.FrameFields.{frame_field}
use Rattle.tp_session.proofs.Hearing.{come_more}
use Rattle.tp_session.proofs.StepFacts.{turn_tells}
use Rattle.tp_session.proofs.conversation.Side.answer.Goals as goal

pub returns-in_err-turn-clause-err : goal.returns-in_err-turn-clause-err
returns-in_err-turn-clause-err g c = λ is going.
    let ends = c.in_err-turn.ensures.err _ (come_more _ _ _ _ _ (λ i. omega (arith, c.type_inv.bytes i)) c.in_ok-feed.ensures.ok is) going in
    grind arith

pub returns-in_default-clause-ok : goal.returns-in_default-clause-ok
returns-in_default-clause-ok g c = λ is.
    let none = c.in_ok-turn.ensures.ok _ (come_more _ _ _ _ _ (λ i. omega (arith, c.type_inv.bytes i)) c.in_ok-feed.ensures.ok is) in
    grind arith

pub returns-in_err-send-clause-err : goal.returns-in_err-send-clause-err
returns-in_err-send-clause-err g c = λ is going.
    let taken = c.in_ok-turn.ensures.ok _ (come_more _ _ _ _ _ (λ i. omega (arith, c.type_inv.bytes i)) c.in_ok-feed.ensures.ok is) in
    grind arith

pub returns-clause-ok : goal.returns-clause-ok
returns-clause-ok g c = λ is.
    let taken = rw c.in-Some.is at (c.in_ok-turn.ensures.ok _ (come_more _ _ _ _ _ (λ i. omega (arith, c.type_inv.bytes i)) c.in_ok-feed.ensures.ok is)) in
    let tells = turn_tells g.H.Host.steps _ _ taken.2.frame c.in-Some.turn taken.2.step in
    let beyond : c.bytes_after_frame-self.result.bytes ≡ taken.0 = c.bytes_after_frame-self.ensures ∙ ap after_frame c.with-self.ensures ∙ ap (after_read _) (ap frame_at taken.2.front ∙ frame_field.again taken.2.frame taken.0 taken.2.is_frame) in
    (grind arith, rw beyond taken.1)
