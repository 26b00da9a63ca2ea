use Rattle.tp_session.proofs.Common.{◌≡◌, ℕ, List, Option, OpenedFrame, HasCome, IsAmid, at_frame}
use Rattle.tp_session.proofs.conversation.take_frame.Given as goal

-- nothing or a part of the next frame was taken, and the host wasn't asked
abbrev pub invariant-loop : goal.invariant-loop
invariant-loop g l =
    ((came : List ℕ) → HasCome came l.fn.session l.fn.framer
    → (opened : Option OpenedFrame)
    × IsAmid (at_frame l.fn.session) (record { came = came; opened = opened }) l.session l.framer
    × (g.H.Host.seen l.host ≡ g.H.Host.seen l.fn.host))
    × g.H.Host.goes_on l.fn.host l.host
