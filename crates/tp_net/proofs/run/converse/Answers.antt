use Rattle.tp_net.proofs.Common.{◌≡◌, false, [], ◌++◌, inl, inr, refl, ap, ◌∙◌, Err, None, arith, append-nil, option_to_list, Appends-kept, Appends-nil, Consumes-nil, Consumes-trans, err_from_is_err_and, SessionState, new_session, first_frame_of, is_over}
use Rattle.tp_session.proofs.Transcripts.{sent_alone}
use Rattle.tp_net.proofs.Endings.{comes_begin, comes_turn, sends_more, stops_at_bytes, stops_at_first, stops_at_turn}
use Rattle.tp_net.proofs.run.converse.Goals as goal

pub returns-in_err-first-clause-session : goal.returns-in_err-first-clause-session
returns-in_err-first-clause-session g c =
    let p = err_from_is_err_and c.from_residual.result c.from_residual.ensures.1 in
    let begin : SessionState × g.H.Host.Seen = (new_session c.args.role c.args.id, g.H.Host.seen c.args.host.now) in
    let none = rw c.new-conversation.ensures at c.in_err-first.ensures.err in
    rw (p.1, p.2) (record { read = []; sent = [] }, Consumes-nil (g.R.Read.remaining c.args.reader.now), inr (Appends-nil (g.W.Write.contents c.args.writer.now)), stops_at_first g.H.Host.steps begin none.1 _ none.2 (inr none.0))

pub returns-in_err-put-clause-session : goal.returns-in_err-put-clause-session
returns-in_err-put-clause-session g c =
    let p = err_from_is_err_and c.from_residual-in_err-put.result c.from_residual-in_err-put.ensures.1 in
    let begin : SessionState × g.H.Host.Seen = (new_session c.args.role c.args.id, g.H.Host.seen c.args.host.now) in
    let some = rw (c.as_slice.ensures.value, c.in_ok-first.ensures.ok, c.new-conversation.ensures) at c.in_err-put.ensures.err.1 in
    rw (p.1, p.2 ∙ c.in_err-put.ensures.err.0) (record { read = []; sent = [] }, Consumes-nil (g.R.Read.remaining c.args.reader.now), inl refl, stops_at_bytes g.H.Host.steps begin some)

pub returns-in_err-next-clause-session : goal.returns-in_err-next-clause-session
returns-in_err-next-clause-session g c =
    let p = err_from_is_err_and c.from_residual-in_err-next.result c.from_residual-in_err-next.ensures.1 in
    let far = c.loop.invariant in
    let going : is_over c.loop.conversation.session.phase ≡ false = grind arith in
    let none = c.in_err-next.ensures.err going in
    let begin : SessionState × g.H.Host.Seen = (new_session c.args.role c.args.id, g.H.Host.seen c.args.host.now) in
    let side : SessionState × g.H.Host.Seen = (c.loop.conversation.session, g.H.Host.seen c.loop.host) in
    rw (p.1, p.2) (
      record { read = far.0.read ++ none.0; sent = far.0.sent },
      Consumes-trans _ _ _ far.0.read none.0 far.1 none.1,
      elim c.in_err-next.ensures.kept [ inl io ↦ inl (ap Err io) | inr kept ↦ inr (Appends-kept _ _ _ _ far.2 kept) ],
      stops_at_turn g.H.Host.steps begin far.0 c.loop.conversation.bytes none.0 side c.in_err-next.field-0.0 (g.H.Host.seen c.take_turn.new.host) far.3 none.2,
    )

-- as many turns as can be counted were taken, and it hasn't ended
pub returns-clause-session : goal.returns-clause-session
returns-clause-session g c =
    let far = c.loop.invariant in
    (far.0, far.1, inl refl, record { unsent = None; held = c.loop.conversation.bytes; side = (c.loop.conversation.session, g.H.Host.seen c.loop.host); comes = grind (arith, append-nil, far.3); cause = inl (inl refl, refl) })

pub loop-init : goal.loop-init
loop-init g c =
    let begin : SessionState × g.H.Host.Seen = (new_session c.args.role c.args.id, g.H.Host.seen c.args.host.now) in (
      record { read = []; sent = option_to_list (first_frame_of c.args.role c.args.id) },
      Consumes-nil (g.R.Read.remaining c.args.reader.now),
      rw (c.as_slice.ensures.value, c.in_ok-first.ensures.ok, c.new-conversation.ensures, sent_alone (first_frame_of c.args.role c.args.id)) at c.in_ok-put.ensures.ok,
      rw c.new-conversation.ensures (comes_begin g.H.Host.steps begin),
      rw c.new-conversation.ensures refl,
      g.met.H.Host.stays _,
    )

pub returns-in-Ended-clause-session : goal.returns-in-Ended-clause-session
returns-in-Ended-clause-session g c =
    let far = c.loop.invariant in
    (far.0, far.1, inr far.2, record { held = c.loop.conversation.bytes; session = c.loop.conversation.session; comes = far.3; over = grind arith; count = c.applied_count.ensures })

pub loop-preserved : goal.loop-preserved
loop-preserved g c =
    let far = c.loop.invariant in
    let going : is_over c.loop.conversation.session.phase ≡ false = grind arith in
    let turned = c.in_ok-next.ensures.ok in
    let begin : SessionState × g.H.Host.Seen = (new_session c.args.role c.args.id, g.H.Host.seen c.args.host.now) in
    let side : SessionState × g.H.Host.Seen = (c.loop.conversation.session, g.H.Host.seen c.loop.host) in
    let then : SessionState × g.H.Host.Seen = (c.take_turn.new.conversation.session, g.H.Host.seen c.take_turn.new.host) in
    let on = comes_turn g.H.Host.steps begin far.0 c.loop.conversation.bytes turned.0 side c.in_ok-next.next turned.1 then c.take_turn.new.conversation.bytes going far.3 turned.4 in (
      record { read = far.0.read ++ turned.0; sent = far.0.sent ++ on.0 },
      Consumes-trans _ _ _ far.0.read turned.0 far.1 turned.2,
      sends_more _ _ _ far.0.sent on.0 far.2 (rw on.1 at turned.3),
      on.2,
      on.3,
      g.met.H.Host.joins _ _ _ far.5 c.take_turn.ensures.host,
    )
