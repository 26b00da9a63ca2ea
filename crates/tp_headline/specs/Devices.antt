-- What a call does to the device of a peer's journal.
use Rattle.std.specs.Prelude.{◌≡◌, None, is_some, IsTrue}
use Rattle.tp_headline.specs.Common.{PeerState}
use Rattle.tp_peer.specs.declared.error.PeerError.TheVariants.{JournalFailed}
use Rattle.tp_peer.specs.PeerStep as peer
use Rattle.tp_headline.specs.Reply.{EventReply, Answered}

-- The call was answered so by the peer p, which is p' then. Where it failed for its device, the next append was set to fail, and is
-- so no more. Where changes entered their appends ended the setting. Else the device is as it was.
pub record SpendsFuse (p : PeerState) (reply : EventReply) (p' : PeerState) : Type 0 where
  pub fails : reply ≡ Answered (peer.Refused JournalFailed) → IsTrue (is_some p.device.fuse) × (p'.device.fuse ≡ None)
  pub appends : (p'.applied ≡ p.applied → ⊥) → p'.device.fuse ≡ None
  pub stays : p'.applied ≡ p.applied → (reply ≡ Answered (peer.Refused JournalFailed) → ⊥) → p'.device ≡ p.device
