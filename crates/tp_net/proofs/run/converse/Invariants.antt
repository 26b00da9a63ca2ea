use Rattle.tp_net.proofs.Common.{◌≡◌, flat_map, Appends, Consumes, frame_spelling, is_over, new_session, Comes, Traffic}
use Rattle.tp_session.proofs.Transcripts.{has_ended}
use Rattle.tp_net.proofs.run.converse.Given as goal

-- the session has come so far, and its answers were sent
abbrev pub invariant-loop : goal.invariant-loop
invariant-loop g l =
    (w : Traffic)
    × Consumes (g.R.Read.remaining l.fn.reader) (g.R.Read.remaining l.reader) w.read
    × Appends (g.W.Write.contents l.fn.writer) (g.W.Write.contents l.writer) (flat_map frame_spelling w.sent)
    × Comes g.H.Host.steps (new_session l.fn.role l.fn.id, g.H.Host.seen l.fn.host) w l.conversation.bytes (l.conversation.session, g.H.Host.seen l.host)
    × (is_over l.conversation.session.phase ≡ has_ended l.next)
    × g.H.Host.goes_on l.fn.host l.host
