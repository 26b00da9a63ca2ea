-- A world of peers that edit one document.
use Rattle.std.specs.Prelude.{◌≡◌, ℕ, List, [], ◌∷◌, ◌++◌, length, drop, map, slice_set, Some}
use Rattle.tp_headline.specs.Common.{slice_get, Actor, DocId, Hash, ChangeParts, PeerState}
use Rattle.tp_headline.specs.Headline.{Lists, ReadRecord}

-- An entry of the wire: the number of the peer that sent it, and its bytes. It stays there whatever happens to it, so it
-- may be delivered never, once or many times, to any peer.
pub record WireEntry : Type 0 where
  pub sender : ℕ
  pub bytes : List ℕ

-- The identifier of the document; the peers, each at its number; the entries of the wire, each at its number; the changes
-- that were made, in the order in which they were; the actors that were named; and the reads, in their order.
pub record World : Type 0 where
  pub id : DocId
  pub peers : List PeerState
  pub wire : List WireEntry
  pub made : List ChangeParts
  pub used : List Actor
  pub reads : List ReadRecord

-- a world in which nothing happened yet
abbrev pub beginning : DocId → World
beginning id = record { id = id; peers = []; wire = []; made = []; used = []; reads = [] }

-- The peer numbered n is p.
abbrev pub HasPeer : World → ℕ → PeerState → Type 0
HasPeer w n p = slice_get w.peers n ≡ Some p

-- The entry numbered n of the wire is e.
abbrev pub HasEntry : World → ℕ → WireEntry → Type 0
HasEntry w n e = slice_get w.wire n ≡ Some e

-- the world as lists: of each peer only the changes that it has applied; what was made; and the reads
abbrev pub lists_of : World → Lists
lists_of w = record { lists = map (λ (p : PeerState). p.applied) w.peers; made = w.made; reads = w.reads }

-- ---- how a world changes

-- the peer p joins as the last
abbrev pub with_new_peer : World → PeerState → World
with_new_peer w p = record w { peers = w.peers ++ p ∷ [] }

-- the peer numbered n is p from now on
abbrev pub with_peer : World → ℕ → PeerState → World
with_peer w n p = record w { peers = slice_set w.peers n p }

-- the peer numbered n sent the bytes
abbrev pub with_entry : World → ℕ → List ℕ → World
with_entry w n bytes = record w { wire = w.wire ++ record { sender = n; bytes = bytes } ∷ [] }

-- changes were made
abbrev pub with_made : World → List ChangeParts → World
with_made w new = record w { made = w.made ++ new }

-- the actor is used from now on
abbrev pub with_used : World → Actor → World
with_used w actor = record w { used = w.used ++ actor ∷ [] }

-- the text was read at the heads, at the peer numbered n
abbrev pub with_read : World → ℕ → List Hash → List ℕ → World
with_read w n heads text = record w { reads = w.reads ++ record { peer = n; heads = heads; text = text } ∷ [] }
