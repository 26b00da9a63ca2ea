-- What a peer holds once it took what came.
use Rattle.std.specs.Prelude.{ℕ, ◌<◌, List, length, IsTrue}
use Rattle.tp_headline.specs.Common.{In, AllIn, ChangeParts, has_all, PeerState}
use Rattle.tp_history.specs.Fit.{most_changes}
use Rattle.tp_headline.specs.World.{World, HasPeer}

-- The peer numbered n holds each of the changes K whose dependencies it holds, where it has a place left.
pub record HoldsReady (w : World) (n : ℕ) (K : List ChangeParts) : Type 0 where
  pub peer : PeerState
  pub present : HasPeer w n peer
  pub ready : length peer.applied < most_changes → (c : ChangeParts) → In c K → IsTrue (has_all peer.applied c.deps) → In c peer.applied

-- The peer numbered n holds all the changes C, where it has a place left.
pub record HoldsAll (w : World) (n : ℕ) (C : List ChangeParts) : Type 0 where
  pub peer : PeerState
  pub present : HasPeer w n peer
  pub all : length peer.applied < most_changes → AllIn C peer.applied
