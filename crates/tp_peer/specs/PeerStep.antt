-- The peer as a machine: what a call may answer, and what it leaves.
use Rattle.std.specs.Prelude.{◌≡◌, ◌≢◌, ◌⊎◌, ◌↔◌, ℕ, ◌<◌, ◌≤◌, List, [], ◌∷◌, ◌++◌, Bool, false, ◌||◌, Option, Some, None, Result, Ok, Err, length, IsTrue, MatchBool}
use Rattle.tp_peer.specs.Common.{ChangeParts, hash_of, Splice, DocError, Done, Report, record_of, without_fuse, SyncError, SyncParts, after_message, absent, MAX_HASHES, IsMessage, MessageParts, message_at, message_spelling}
use Rattle.tp_opid.specs.declared.hash.Hash.{Hash}
use Rattle.tp_edit.specs.Text.{IsTextOf}
use Rattle.tp_history.specs.Heads.{heads}
use Rattle.tp_history.specs.Named.{has_all}
use Rattle.tp_history.specs.Past.{past}
use Rattle.tp_document.specs.Editing.{EditRequest, AsksNothing, IsAcceptedEdit, RefusesMaking, asking}
use Rattle.tp_receive.specs.declared.error.ReceiveError.{ReceiveError}
use Rattle.tp_receive.specs.Delivery.{is_full}
use Rattle.tp_sync.specs.NextMessage.{NextMessage, HasNothingToSend}
use Rattle.tp_peer.specs.declared.error.PeerError.{PeerError}
use Rattle.tp_peer.specs.declared.error.PeerError.TheVariants.{JournalFailed, Stopped, TooManyLinks, Doc, Sync, OutOfMemory}
use Rattle.tp_peer.specs.Links.{is_one_too_many, known_of, with_link, without_link}
use Rattle.tp_peer.specs.PeerState.{PeerState}
use Rattle.tp_peer.specs.Taking.{StopsAppending, StopsUnsettled, ReceivesAndAppends}
use Rattle.tp_document.specs.declared.error.DocError.TheVariants as doc
use Rattle.tp_receive.specs.declared.error.ReceiveError.TheVariants as receive
use Rattle.tp_receive.specs.Outcome as outcome
use Rattle.tp_message.specs.declared.error.SyncError.TheVariants as sync

-- The calls on a peer: an edit by its splices, time and message; a merge from another peer; on the link with a number,
-- bytes that come, the next message, and its end; the text now, and at the hashes; the heads.
pub data Call : Type 0 where
  Edit : List Splice → ℕ → List ℕ → Call
  Merge : PeerState → Call
  Receive : ℕ → List ℕ → Call
  Generate : ℕ → Call
  Forget : ℕ → Call
  Read : Call
  ReadAt : List Hash → Call
  ReadHeads : Call

-- The replies: the hash of the change that an edit made, if it made one; what a merge reports; what a message that came
-- led to, and whether it declares the heads that the one before it declared; the bytes of a message, if there is
-- anything to say, and whether it takes the changes that are due from the first again; that a link is gone; the
-- characters of a text; heads; a refusal.
pub data Reply : Type 0 where
  Made : Option Hash → Reply
  Merged : Report → Reply
  Received : Report → Bool → Reply
  Generated : Option (List ℕ × Bool) → Reply
  Forgotten : Reply
  Text : List ℕ → Reply
  Heads : List Hash → Reply
  Refused : PeerError → Reply

-- what a call replied by its result
abbrev pub reply_of_result : {T : Type 0} → (T → Reply) → Result T PeerError → Reply
reply_of_result f (Ok x) = f x
reply_of_result f (Err e) = Refused e

-- ---- edits

-- the peer, where c entered as the last and its record was appended, which ends the arming of its journal's device
abbrev pub peer_with_change : PeerState → ChangeParts → PeerState
peer_with_change p c = record p { applied = p.applied ++ c ∷ []; journal = p.journal ++ record_of c; device = without_fuse p.device }

-- What an edit did: nothing where it asked nothing, and else its one change entered.
abbrev pub Edits : PeerState → EditRequest → Option Hash → PeerState → Type 0
Edits p asked None p' = AsksNothing p.applied asked × (p' ≡ p)
Edits p asked (Some h) p' = (c : ChangeParts) × IsAcceptedEdit p.applied asked c × (h ≡ hash_of c) × (p' ≡ peer_with_change p c)

-- What a refused edit leaves: the peer as it was, or stopped where the device failed while its change was appended.
abbrev pub RefusesEdit : PeerState → EditRequest → PeerError → PeerState → Type 0
RefusesEdit p asked (Doc e) p' = RefusesMaking p.applied asked e × (e ≢ doc.OutOfMemory) × (p' ≡ p)
RefusesEdit p asked JournalFailed p' = (c : ChangeParts) × IsAcceptedEdit p.applied asked c × StopsAppending p c p'
RefusesEdit p asked OutOfMemory p' = p' ≡ p
RefusesEdit p asked _ p' = ⊥

-- ---- merges

-- The document refused a merge: the other peer's is another document.
abbrev pub RefusesOtherDocument : PeerState → PeerState → DocError → Type 0
RefusesOtherDocument p other e = (e ≡ doc.OtherDocument) × (p.id ≡ other.id → ⊥)

-- What a merge did: it received those changes of the other that were absent.
abbrev pub Merges : PeerState → PeerState → Report → PeerState → Type 0
Merges p other r p' = (p.id ≡ other.id) × ReceivesAndAppends p (absent p.applied other.applied) (Done r) p'

-- What a refused merge leaves: the peer as it was, or a part of the changes received.
abbrev pub RefusesMerge : PeerState → PeerState → PeerError → PeerState → Type 0
RefusesMerge p other (Doc e) p' = RefusesOtherDocument p other e × (p' ≡ p)
RefusesMerge p other JournalFailed p' = (p.id ≡ other.id) × ReceivesAndAppends p (absent p.applied other.applied) (outcome.Stopped receive.NotKept) p'
RefusesMerge p other OutOfMemory p' = (p.id ≡ other.id) × ReceivesAndAppends p (absent p.applied other.applied) (outcome.Stopped receive.OutOfMemory) p'
RefusesMerge p other _ p' = ⊥

-- ---- messages that come

-- The bytes are the message m, within its limits.
pub record Decodes (bytes : List ℕ) (m : MessageParts) : Type 0 where
  pub reads : message_at bytes ≡ Ok m
  pub limits : IsMessage m

-- why bytes are no message
abbrev pub RefusesDecoding : List ℕ → PeerError → Type 0
RefusesDecoding bytes OutOfMemory = Unit {0}
RefusesDecoding bytes (Sync sync.BadMessage) = message_at bytes ≡ Err sync.BadMessage
RefusesDecoding bytes (Sync sync.BadChange) = message_at bytes ≡ Err sync.BadChange
RefusesDecoding bytes _ = ⊥

-- the peer, where s is known on the link
abbrev pub knowing : PeerState → ℕ → SyncParts → PeerState
knowing p link s = record p { links = with_link p.links link s }

-- What a receive did: the peer received the changes of the message, and knows on the link what the message tells.
pub record ReceivesMessage (p : PeerState) (link : ℕ) (bytes : List ℕ) (r : Report) (same_heads : Bool) (p' : PeerState) : Type 0 where
  pub place : is_one_too_many p.links link ≡ false
  pub message : MessageParts
  pub decodes : Decodes bytes message
  pub taken : PeerState
  pub takes : ReceivesAndAppends p message.changes (Done r) taken
  pub same : IsTrue same_heads ↔ ((known_of p.links link).theirs ≡ Some message.heads)
  pub left : p' ≡ knowing taken link (after_message (known_of p.links link) message)

-- Why the bytes are refused: they are no message, or more than 1,024 changes would wait.
abbrev pub RefusesBytes : PeerState → List ℕ → SyncError → Type 0
RefusesBytes p bytes sync.BadMessage = message_at bytes ≡ Err sync.BadMessage
RefusesBytes p bytes sync.BadChange = message_at bytes ≡ Err sync.BadChange
RefusesBytes p bytes sync.PendingFull = (m : MessageParts) × Decodes bytes m × IsTrue (is_full p.applied p.waiting m.changes)
RefusesBytes p bytes _ = ⊥

-- Receiving the changes of the message stopped for the refusal: those before it entered.
pub record HearsPart (p : PeerState) (bytes : List ℕ) (why : ReceiveError) (p' : PeerState) : Type 0 where
  pub message : MessageParts
  pub decodes : Decodes bytes message
  pub takes : ReceivesAndAppends p message.changes (outcome.Stopped why) p'

-- What a refused receive leaves: the peer as it was, or a part of the changes received. The links are as they were.
abbrev pub RefusesReceive : PeerState → ℕ → List ℕ → PeerError → PeerState → Type 0
RefusesReceive p link bytes TooManyLinks p' = IsTrue (is_one_too_many p.links link) × (p' ≡ p)
RefusesReceive p link bytes (Sync e) p' = (is_one_too_many p.links link ≡ false) × RefusesBytes p bytes e × (p' ≡ p)
RefusesReceive p link bytes JournalFailed p' = (is_one_too_many p.links link ≡ false) × HearsPart p bytes receive.NotKept p'
RefusesReceive p link bytes OutOfMemory p' = (is_one_too_many p.links link ≡ false) × ((p' ≡ p) ⊎ HearsPart p bytes receive.OutOfMemory p')
RefusesReceive p link bytes _ p' = ⊥

-- ---- messages that are made

-- What a generate did where there is something to say: the bytes spell the answer to what is known on the link, and
-- what is known then is kept there.
pub record GeneratesMessage (p : PeerState) (link : ℕ) (bytes : List ℕ) (again : Bool) (p' : PeerState) : Type 0 where
  pub place : is_one_too_many p.links link ≡ false
  pub message : MessageParts
  pub state : SyncParts
  pub answers : NextMessage p.applied p.waiting (known_of p.links link) (Some message) state
  pub limits : IsMessage message
  pub spelled : bytes ≡ message_spelling message
  pub begins : again ≡ state.again
  pub left : p' ≡ knowing p link state

-- What it did where there is nothing to say: nothing. The link was there, since on a new one there is something to say.
pub record IsSilent (p : PeerState) (link : ℕ) (p' : PeerState) : Type 0 where
  pub place : is_one_too_many p.links link ≡ false
  pub few : length (heads p.applied) ≤ MAX_HASHES
  pub quiet : HasNothingToSend p.applied (known_of p.links link)
  pub left : p' ≡ p

abbrev pub Speaks : PeerState → ℕ → Option (List ℕ × Bool) → PeerState → Type 0
Speaks p link None p' = IsSilent p link p'
Speaks p link (Some sent) p' = GeneratesMessage p link sent.0 sent.1 p'

-- What a refused generate leaves: the peer as it was, or stopped where the journal couldn't be settled.
abbrev pub RefusesGenerate : PeerState → ℕ → PeerError → PeerState → Type 0
RefusesGenerate p link JournalFailed p' = StopsUnsettled p p'
RefusesGenerate p link TooManyLinks p' = IsTrue (is_one_too_many p.links link) × (p' ≡ p)
RefusesGenerate p link (Sync e) p' =
    (is_one_too_many p.links link ≡ false) × (e ≡ sync.TooManyHeads) × (MAX_HASHES < length (heads p.applied)) × (p' ≡ p)
RefusesGenerate p link OutOfMemory p' = (is_one_too_many p.links link ≡ false) × (p' ≡ p)
RefusesGenerate p link _ p' = ⊥

-- ---- reads

-- why the text at the hashes can be refused
abbrev pub RefusesText : PeerState → List Hash → PeerError → Type 0
RefusesText p H (Doc e) = (e ≡ doc.UnknownHead) × (has_all p.applied H ≡ false)
RefusesText p H OutOfMemory = IsTrue (has_all p.applied H)
RefusesText p H _ = ⊥

-- ---- all calls

-- what a call on a running peer, from running peers, may reply and leave
abbrev pub Runs : PeerState → Call → Reply → PeerState → Type 0
Runs p (Edit splices time message) (Made made) p' = Edits p (asking p.actor splices time message) made p'
Runs p (Edit splices time message) (Refused e) p' = RefusesEdit p (asking p.actor splices time message) e p'
Runs p (Merge other) (Merged r) p' = Merges p other r p'
Runs p (Merge other) (Refused e) p' = RefusesMerge p other e p'
Runs p (Receive link bytes) (Received r same_heads) p' = ReceivesMessage p link bytes r same_heads p'
Runs p (Receive link bytes) (Refused e) p' = RefusesReceive p link bytes e p'
Runs p (Generate link) (Generated sent) p' = Speaks p link sent p'
Runs p (Generate link) (Refused e) p' = RefusesGenerate p link e p'
Runs p (Forget link) Forgotten p' = p' ≡ record p { links = without_link p.links link }
Runs p Read (Text t) p' = IsTextOf p.applied t × (p' ≡ p)
Runs p Read (Refused e) p' = (e ≡ OutOfMemory) × (p' ≡ p)
Runs p (ReadAt H) (Text t) p' = IsTrue (has_all p.applied H) × IsTextOf (past p.applied H) t × (p' ≡ p)
Runs p (ReadAt H) (Refused e) p' = RefusesText p H e × (p' ≡ p)
Runs p ReadHeads (Heads hs) p' = (hs ≡ heads p.applied) × (p' ≡ p)
Runs _ _ _ _ = ⊥

-- whether a peer that the call needs has stopped
abbrev pub needs_stopped : PeerState → Call → Bool
needs_stopped p (Merge other) = p.stopped || other.stopped
needs_stopped p _ = p.stopped

-- From p on, the call may give the reply and leave p'. Where a peer that it needs has stopped it is refused so, and
-- changes nothing.
unfoldable pub PeerStep : PeerState → Call → Reply → PeerState → Type 0
PeerStep p call reply p' = MatchBool (needs_stopped p call) ((reply ≡ Refused Stopped) × (p' ≡ p)) (Runs p call reply p')
