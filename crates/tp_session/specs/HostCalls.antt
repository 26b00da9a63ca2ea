-- What a session asks of its host, and which call of a peer that is on a link.
use Rattle.std.specs.Prelude.{ℕ, List}
use Rattle.tp_session.specs.Common.{Call}
use Rattle.tp_peer.specs.PeerStep as peer

-- To receive a message by its bytes, to make the next one, and to forget what the messages so far said.
pub data HostCall : Type 0 where
  Receive : List ℕ → HostCall
  Generate : HostCall
  Forget : HostCall

-- the call of a peer, on the link with the number
abbrev pub on : ℕ → HostCall → Call
on n (Receive bytes) = peer.Receive n bytes
on n Generate = peer.Generate n
on n Forget = peer.Forget n
