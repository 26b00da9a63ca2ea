-- What receiving changes does to a peer.
use Rattle.std.specs.Prelude.{◌≡◌, List, Bool, true}
use Rattle.tp_peer.specs.Common.{ChangeParts, Outcome, ReceivesWith, Stopped}
use Rattle.tp_receive.specs.declared.error.ReceiveError.TheVariants.{NotKept}
use Rattle.tp_receive.specs.Intake.{Receiver, receiver}
use Rattle.tp_peer.specs.Appending.{AppendsRecord, JournalState, RefusesRecord, StaysUnsettled, TearsRecord, journal_state}
use Rattle.tp_peer.specs.PeerState.{PeerState}
pub use Rattle.tp_receive.specs.Outcome.{Report, report_of}

-- what is seen of the peer's journal
abbrev pub journal_of : PeerState → JournalState
journal_of p = journal_state p.journal p.device

-- the peer as what receives: its journal keeps each change that enters
abbrev pub receiver_of : PeerState → Receiver JournalState
receiver_of p = receiver (journal_of p) p.applied p.waiting

-- The device failed while the record of c was appended, and the peer has stopped.
pub record StopsAppending (p : PeerState) (c : ChangeParts) (p' : PeerState) : Type 0 where
  pub tears : TearsRecord (journal_of p) c (journal_of p')
  pub left : p' ≡ record p { journal = p'.journal; device = p'.device; stopped = true }

-- The device failed as the journal was settled, and the peer has stopped.
pub record StopsUnsettled (p p' : PeerState) : Type 0 where
  pub unsettled : StaysUnsettled (journal_of p) (journal_of p')
  pub left : p' ≡ record p { journal = p'.journal; device = p'.device; stopped = true }

-- whether a peer has stopped, once it received with the outcome: where the device failed, or it had stopped
abbrev pub stopped_by : Outcome → Bool → Bool
stopped_by (Stopped NotKept) stopped = true
stopped_by _ stopped = stopped

-- The peer received the changes K, with the outcome o, and is p' then: each change that entered was appended first, and
-- it has stopped where the device failed within a record.
pub record ReceivesAndAppends (p : PeerState) (K : List ChangeParts) (o : Outcome) (p' : PeerState) : Type 0 where
  pub receives : ReceivesWith AppendsRecord RefusesRecord (receiver_of p) K (receiver_of p') o
  pub left : p' ≡ record p { applied = p'.applied; waiting = p'.waiting; journal = p'.journal; device = p'.device; stopped = stopped_by o p.stopped }
