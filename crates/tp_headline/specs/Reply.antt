-- What is replied to an event.
use Rattle.std.specs.Prelude.{ℕ, Some}
use Rattle.tp_peer.specs.PeerStep as peer
use Rattle.tp_headline.specs.declared.error.WorldError.{WorldError}

-- The number of the peer that joined; the number of the entry of the wire that was sent; that a peer that crashed runs
-- again; that a device is to fail; what a peer answered to its call, or why it couldn't be opened; why the world refused
-- the event.
pub data EventReply : Type 0 where
  Peer : ℕ → EventReply
  Wire : ℕ → EventReply
  Reopened : EventReply
  Armed : EventReply
  Answered : peer.Reply → EventReply
  Refused : WorldError → EventReply

-- the reply to a call that was answered so, where the next entry of the wire has the number n: of a message that was made
-- that number, and else the answer
abbrev pub reply_to : ℕ → peer.Reply → EventReply
reply_to n (peer.Generated (Some message)) = Wire n
reply_to n answer = Answered answer
