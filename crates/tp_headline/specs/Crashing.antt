-- A peer that crashes, between calls or during one, and is opened again.
use Rattle.std.specs.Prelude.{◌≡◌, ◌⊎◌, ℕ, ◌+◌, ◌≤◌, List, [], ◌∷◌, ◌++◌, length, take, true, false, Option, Some, None, IsTrue}
use Rattle.tp_headline.specs.Common.{Actor, ChangeParts, no_device, record_of, Recovers, AllIn, EntersAfter, PeerError, came, PeerState, disarming}
use Rattle.tp_recovery.specs.Laws.{AreWhole}
use Rattle.tp_peer.specs.Opening.{Reopens, RefusesReopening}
use Rattle.tp_headline.specs.Calling.{IsCall, in_memory, made_by}
use Rattle.tp_headline.specs.Refusing.{IsEditAt, IsEditOf}
use Rattle.tp_headline.specs.Reply.{EventReply, Answered, Reopened}
use Rattle.tp_headline.specs.World.{World, HasPeer}
use Rattle.tp_peer.specs.PeerStep as peer
use Rattle.tp_headline.specs.Call as call

-- What the peer p may be at the moment of a crash: as it was, between calls; and what some outcome of the call leaves,
-- during one, where the device doesn't fail.
abbrev pub MayBe : World → PeerState → Option call.EventCall → PeerState → Type 0
MayBe w p None at = at ≡ p
MayBe w p (Some named) at = (made : peer.Call) × (answer : peer.Reply) × IsCall w named made × peer.PeerStep (disarming p) made answer at

-- what the journal keeps of a call that took the peer p to p': what it held before, and the first `kept` bytes of what
-- was appended
abbrev pub kept_bytes : PeerState → PeerState → ℕ → List ℕ
kept_bytes p p' kept = take (length p.journal + kept) p'.journal

-- the peer p, stopped, with the bytes as its journal and the changes that these recover to, and with no links
abbrev pub stopped_with : PeerState → List ℕ → List ChangeParts → PeerState
stopped_with p bytes C = record p { applied = C; waiting = []; links = []; journal = bytes; device = no_device; stopped = true }

-- Why the journal of the peer p, which kept the bytes, isn't opened again: the peer has stopped.
pub record StaysDown (p : PeerState) (bytes : List ℕ) (actor : Actor) (error : PeerError) (p' : PeerState) : Type 0 where
  pub why : RefusesReopening (in_memory bytes) actor error (in_memory bytes)
  pub changes : List ChangeParts
  pub keep : ℕ
  pub recovers : Recovers bytes p.id changes keep
  pub left : p' ≡ stopped_with p bytes changes

-- What becomes of the peer p where its journal kept the bytes and is opened again under the actor.
abbrev pub ComesBack : PeerState → List ℕ → Actor → EventReply → PeerState → Type 0
ComesBack p bytes actor reply p' =
    ((reply ≡ Reopened) × Reopens (in_memory bytes) actor p')
    ⊎ ((error : PeerError) × (reply ≡ Answered (peer.Refused error)) × StaysDown p bytes actor error p')

-- The peer numbered n crashed, and was opened again under the actor.
pub record Crashes (w : World) (n : ℕ) (during : Option call.EventCall) (kept : ℕ) (actor : Actor) (reply : EventReply) : Type 0 where
  pub before : PeerState
  pub present : HasPeer w n before
  pub at : PeerState
  pub might : MayBe w before during at
  pub after : PeerState
  pub back : ComesBack before (kept_bytes before at kept) actor reply after

-- the changes that count as made where `new` were recovered beyond the peer's list: that of an interrupted edit
abbrev pub made_during : Option call.EventCall → List ChangeParts → List ChangeParts
made_during (Some (call.Alone own)) new = made_by own new
made_during during new = []

-- ---- what is kept of a call

-- The changes are some that the call may enter at the peer p: an edit its own, and any other call changes that waited or
-- came.
abbrev pub MayEnter : PeerState → peer.Call → List ChangeParts → Type 0
MayEnter p (peer.Edit splices time message) new =
    (new ≡ []) ⊎ ((c : ChangeParts) × IsEditOf p (peer.Edit splices time message) c × (new ≡ c ∷ []))
MayEnter p made new = AllIn new (p.waiting ++ came p made)

-- A crash within an edit, after `kept` bytes of its record, made the edit's change: its record is whole, and the peer
-- that came back has it after what it had.
pub record MakesWhole (w w' : World) (n : ℕ) (made : peer.Call) (kept : ℕ) : Type 0 where
  pub change : ChangeParts
  pub is : IsEditAt w n made change
  pub whole : length (record_of change) ≤ kept
  pub added : w'.made ≡ w.made ++ change ∷ []
  pub after : PeerState
  pub present : HasPeer w' n after
  pub there : after.applied ≡ is.peer.applied ++ change ∷ []

-- An edit of the peer numbered n in which the device failed made its change: the peer has stopped without it, and its
-- journal recovers to it.
pub record MakesUnanswered (w w' : World) (n : ℕ) (made : peer.Call) : Type 0 where
  pub change : ChangeParts
  pub is : IsEditAt w n made change
  pub added : w'.made ≡ w.made ++ change ∷ []
  pub after : PeerState
  pub present : HasPeer w' n after
  pub stopped : IsTrue after.stopped
  pub keep : ℕ
  pub recovers : Recovers after.journal after.id (is.peer.applied ++ change ∷ []) keep

-- A crash within a call of the peer numbered n, after `kept` bytes of what it appended: some of the changes that it may
-- enter had entered, and the peer that came back has what it had and, after it, just those of them whose records are
-- whole. Of these an edit's counts as made.
pub record KeepsWhole (w w' : World) (n : ℕ) (during : call.EventCall) (kept : ℕ) : Type 0 where
  pub before : PeerState
  pub stood : HasPeer w n before
  pub runs : before.stopped ≡ false
  pub made : peer.Call
  pub is : IsCall w during made
  pub new : List ChangeParts
  pub entered : MayEnter before made new
  pub fits : EntersAfter before.applied new
  pub whole : List ChangeParts
  pub are_whole : AreWhole new kept whole
  pub after : PeerState
  pub present : HasPeer w' n after
  pub there : after.applied ≡ before.applied ++ whole
  pub added : w'.made ≡ w.made ++ made_by made whole
