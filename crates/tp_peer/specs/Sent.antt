-- A message that was made, as contracts see it.
use Rattle.std.specs.Prelude.{ℕ, List, Bool, Option, Some, None}
use Rattle.tp_peer.specs.declared.exchanged.Outgoing.{Outgoing}

-- its bytes, and whether it takes the changes that are due from the first again
abbrev pub sent_of : Option Outgoing → Option (List ℕ × Bool)
sent_of None = None
sent_of (Some sent) = Some (sent.bytes.items, sent.again)
