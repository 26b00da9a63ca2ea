-- The calls that events make.
use Rattle.std.specs.Prelude.{ℕ}
use Rattle.tp_peer.specs.PeerStep as peer

-- A call as an event names it: one that needs no other peer; a merge from the peer with the number; the receipt of the
-- entry of the wire with the number, on the link to the peer that sent it. The number of a link is that of the peer at
-- its other end.
pub data EventCall : Type 0 where
  Alone : peer.Call → EventCall
  Merge : ℕ → EventCall
  Deliver : ℕ → EventCall
