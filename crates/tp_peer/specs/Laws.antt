-- What the laws of peers say.
use Rattle.std.specs.Prelude.{◌≡◌, ◌≢◌, ◌⊎◌, ℕ, ◌==◌, ◌+◌, ◌≤◌, List, [], ◌++◌, ◌∷◌, length, Bool, false, take, None, Result, Ok, Err, IsTrue}
use Rattle.tp_peer.specs.Common.{ChangeParts, IsChange, cause, most_waiting, AllChanges, absent, Device, DeviceFailsOnce, without_fuse, journal, record_of, bytes_of_records, SyncError, MAX_CHANGES, MessageParts, message_at, SyncParts, Report}
use Rattle.tp_list.specs.Members.{AllIn}
use Rattle.tp_receive.specs.Receiving.{Between, EntersAfter, Receives}
use Rattle.tp_receive.specs.Replies.{AllAccounted, AreRefused, LosesNone}
use Rattle.tp_recovery.specs.Laws.{RecoversCut}
use Rattle.tp_peer.specs.declared.error.PeerError.TheVariants.{JournalFailed}
use Rattle.tp_peer.specs.Links.{is_one_too_many, known_of, with_link, without_link}
use Rattle.tp_peer.specs.PeerState.{IsTorn, PeerState}
use Rattle.tp_peer.specs.PeerStep.{Call, Edit, Merge, Receive, Generate, Forget, Reply, Refused}

-- the changes of a message
abbrev pub decoded_changes : Result MessageParts SyncError → List ChangeParts
decoded_changes (Ok m) = m.changes
decoded_changes (Err e) = []

-- the changes that bytes carry: those of the message that they are, and else none
abbrev pub changes_in : List ℕ → List ChangeParts
changes_in bytes = decoded_changes (message_at bytes)

-- the changes that come to a peer by a call
abbrev pub came : PeerState → Call → List ChangeParts
came p (Merge other) = absent p.applied other.applied
came p (Receive link bytes) = changes_in bytes
came p _ = []

-- How many changes a call enters: one at most by an edit, any number by a merge, as many as waited and 1,024 more at
-- most by a message, and else none.
abbrev pub AreFew : PeerState → Call → List ChangeParts → Type 0
AreFew p (Edit splices time message) new = length new ≤ 1
AreFew p (Merge other) new = Unit {0}
AreFew p (Receive link bytes) new = length new ≤ length p.waiting + MAX_CHANGES
AreFew p _ new = new ≡ []

-- The links stayed, or s is known on the one with the number.
abbrev pub TouchesLink : List (ℕ × SyncParts) → ℕ → List (ℕ × SyncParts) → Type 0
TouchesLink L link L' = (L' ≡ L) ⊎ ((s : SyncParts) × (is_one_too_many L link ≡ false) × (L' ≡ with_link L link s))

-- What a call does to the links: one that comes with a number may change that link, and else they stay.
abbrev pub MovesLinks : Call → List (ℕ × SyncParts) → List (ℕ × SyncParts) → Type 0
MovesLinks (Receive link bytes) L L' = TouchesLink L link L'
MovesLinks (Generate link) L L' = TouchesLink L link L'
MovesLinks (Forget link) L L' = (L' ≡ L) ⊎ (L' ≡ without_link L link)
MovesLinks _ L L' = L' ≡ L

-- the call is on the link with the number
abbrev pub is_on : Call → ℕ → Bool
is_on (Receive link bytes) n = link == n
is_on (Generate link) n = link == n
is_on (Forget link) n = link == n
is_on _ n = false

-- the device once the records of the changes were appended: where there are any, that ends its arming
abbrev pub after_appends : List ChangeParts → Device → Device
after_appends [] device = device
after_appends (c ∷ new) device = without_fuse device

-- The records of the new changes were appended, and nothing else.
pub record Appends (p : PeerState) (new : List ChangeParts) (reply : Reply) (p' : PeerState) : Type 0 where
  pub journal : p'.journal ≡ p.journal ++ bytes_of_records new
  pub device : p'.device ≡ after_appends new p.device
  pub goes_on : p'.stopped ≡ p.stopped
  pub answered : reply ≢ Refused JournalFailed

-- The device failed, in an append or in another call.
abbrev pub DeviceFails : Device → Device → Type 0
DeviceFails before after = (is_append : Bool) × DeviceFailsOnce is_append before after

-- The records of the new changes were appended, and then the device failed, at a further one or as the journal was settled:
-- a beginning of the record of a change that could enter next may be after them. The peer has stopped, and says so.
pub record Tears (p : PeerState) (new : List ChangeParts) (reply : Reply) (p' : PeerState) : Type 0 where
  pub bytes : List ℕ
  pub torn : IsTorn p'.applied bytes
  pub journal : p'.journal ≡ p.journal ++ (bytes_of_records new ++ bytes)
  pub device : DeviceFails p.device p'.device
  pub running : p.stopped ≡ false
  pub stopped : IsTrue p'.stopped
  pub answered : reply ≡ Refused JournalFailed

-- What each step keeps: who the peer is; its list, which grows at its end by changes that could enter; that what waits
-- waited or came, and that at most 1,024 wait; its links but the one that the call is on; and its journal, which grows
-- by the records of the new changes.
pub record Keeps (p : PeerState) (call : Call) (reply : Reply) (p' : PeerState) : Type 0 where
  pub id : p'.id ≡ p.id
  pub actor : p'.actor ≡ p.actor
  pub new : List ChangeParts
  pub applied : p'.applied ≡ p.applied ++ new
  pub few : AreFew p call new
  pub fits : EntersAfter p.applied new
  pub limits : AllChanges new
  pub still : IsTrue p.stopped → new ≡ []
  pub waits : AllIn p'.waiting (p.waiting ++ came p call)
  pub few_wait : length p.waiting ≤ most_waiting → length p'.waiting ≤ most_waiting
  pub links : MovesLinks call p.links p'.links
  pub others : (n : ℕ) → is_on call n ≡ false → known_of p'.links n ≡ known_of p.links n
  pub journal : Appends p new reply p' ⊎ Tears p new reply p'

-- What receiving the changes K, all of them, comes to: a result, each reported cause is the cause now, and each change
-- is somewhere.
pub record IsComplete (p : PeerState) (K : List ChangeParts) (r : Report) (p' : PeerState) : Type 0 where
  pub receives : Receives p.applied (p.waiting ++ K) p'.applied
  pub causes : AreRefused (p.waiting ++ K) p'.applied r.refused
  pub placed : AllAccounted (p.waiting ++ K) p'.applied p'.waiting r.applied r.refused

-- What receiving a part of the changes K comes to: what is applied is between what was there and a result, and nothing
-- that waited is lost.
pub record IsPartial (p : PeerState) (K : List ChangeParts) (p' : PeerState) : Type 0 where
  pub between : Between p.applied (p.waiting ++ K) p'.applied
  pub lost : LosesNone p.applied p'.applied p.waiting p'.waiting

-- What receiving a part of the changes K comes to where the device failed: the list with the change that was being
-- appended is between what was there and a result, nothing that waited is lost, and a beginning of the change's record
-- is in the journal.
pub record IsTornAt (p : PeerState) (K : List ChangeParts) (p' : PeerState) : Type 0 where
  pub change : ChangeParts
  pub between : Between p.applied (p.waiting ++ K) (p'.applied ++ change ∷ [])
  pub lost : LosesNone p.applied p'.applied p.waiting p'.waiting
  pub limits : IsChange change
  pub fits : cause p'.applied change ≡ None
  pub count : ℕ
  pub journal : p.journal ≡ journal p.id p.applied → p'.journal ≡ journal p'.id p'.applied ++ take count (record_of change)

-- What the journal of a stopped peer recovers to: its changes, and the one that was being appended, if there is one, where
-- its record is whole.
pub record RecoversTorn (p : PeerState) : Type 0 where
  pub changes : List ChangeParts
  pub few : length changes ≤ 1
  pub count : ℕ
  pub content : p.journal ≡ journal p.id p.applied ++ take count (bytes_of_records changes)
  pub recovers : RecoversCut p.id p.applied changes count
