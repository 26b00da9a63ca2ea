-- What changes of others, and messages on links, do to an editor.
use Rattle.std.specs.Prelude.{◌≡◌, ◌⊎◌, ℕ, ◌<◌, ◌≤◌, List, [], ◌∷◌, Bool, true, false, Some, None, Result, Ok, Err}
use Rattle.tp_layout.specs.declared.parts.ChangeParts.{ChangeParts}
use Rattle.tp_document.specs.declared.error.DocError.TheVariants as doc
use Rattle.tp_peer.specs.PeerState.{PeerState}
use Rattle.tp_peer.specs.PeerStep.{Forget, Generate, Generated, PeerStep, Receive, Received, Refused, Reply}
use Rattle.tp_peer.specs.Taking.{report_of}
use Rattle.tp_peer.specs.declared.error.PeerError.{PeerError}
use Rattle.tp_peer.specs.declared.error.PeerError.TheVariants as peer
use Rattle.tp_receive.specs.declared.intake.Applied.{Applied}
use Rattle.tp_message.specs.declared.error.SyncError.TheVariants as sync
use Rattle.tp_message.specs.Message.{MessageParts}
use Rattle.tp_message.specs.Spelling.{message_spelling}
use Rattle.tp_editor.specs.EditorState.{EditorState}
use Rattle.tp_editor.specs.declared.error.EditorError.{EditorError}
use Rattle.tp_editor.specs.declared.error.EditorError.TheVariants as refused
use Rattle.tp_editor.specs.declared.hosting.TheConstants.{APPLYING}

-- ---- a single change

-- The message has the change and nothing else.
pub record HasOnly (m : MessageParts) (c : ChangeParts) : Type 0 where
  pub changes : m.changes ≡ c ∷ []
  pub heads : m.heads ≡ []
  pub wants : m.wants ≡ []
  pub known : m.known ≡ []

-- the refusal of a message with a single change, as that of the change
abbrev pub refusal_of_change : PeerError → PeerError
refusal_of_change (peer.Sync sync.PendingFull) = peer.Doc doc.PendingFull
refusal_of_change e = e

-- what the message with a single change was replied, by what is answered for the change
abbrev pub MatchesReply : Result Applied PeerError → Reply → Type 0
MatchesReply (Ok applied) reply = (same_heads : Bool) × (reply ≡ Received (report_of applied) same_heads)
MatchesReply (Err e) reply = (why : PeerError) × (reply ≡ Refused why) × (e ≡ refusal_of_change why)

-- The change came in a message of its own on the link for these, which was forgotten then.
pub record ComesAlone (p : PeerState) (c : ChangeParts) (answered : Result Applied PeerError) (p' : PeerState) : Type 0 where
  pub message : MessageParts
  pub only : HasOnly message c
  pub reply : Reply
  pub tells : MatchesReply answered reply
  pub between : PeerState
  pub receives : PeerStep p (Receive APPLYING (message_spelling message)) reply between
  pub forgets : (then : Reply) × PeerStep between (Forget APPLYING) then p'

-- what applying a change did: it came, or there was no memory for the message, and nothing was done
abbrev pub TakesChange : PeerState → ChangeParts → Result Applied PeerError → PeerState → Type 0
TakesChange p c answered p' = ComesAlone p c answered p' ⊎ ((answered ≡ Err peer.OutOfMemory) × (p' ≡ p))

-- ---- messages on a link

-- A message was made for the other of the link, whose bytes are the answer.
pub record GeneratesAnswer (e : EditorState) (i : ℕ) (e' : EditorState) : Type 0 where
  pub again : Bool
  pub step : PeerStep e.peer (Generate i) (Generated (Some (e'.answer, again))) e'.peer

-- What making the next message on a link did: its bytes are the answer; or nothing is to be said; or why none was made.
abbrev pub Generates : EditorState → ℕ → Result Bool EditorError → EditorState → Type 0
Generates e i (Ok true) e' = (i < e.links) × GeneratesAnswer e i e'
Generates e i (Ok false) e' = (i < e.links) × PeerStep e.peer (Generate i) (Generated None) e'.peer × (e'.answer ≡ e.answer)
Generates e i (Err refused.NoLink) e' = (e.links ≤ i) × (e' ≡ e)
Generates e i (Err (refused.Peer error)) e' = (i < e.links) × PeerStep e.peer (Generate i) (Refused error) e'.peer × (e'.answer ≡ e.answer)

-- What receiving the bytes of a message on a link did: it was received, as is reported; or why not, or not to its end.
abbrev pub ReceivesOnLink : EditorState → ℕ → List ℕ → Result Applied EditorError → EditorState → Type 0
ReceivesOnLink e i bytes (Ok applied) e' = (i < e.links) × (same_heads : Bool) × PeerStep e.peer (Receive i bytes) (Received (report_of applied) same_heads) e'.peer
ReceivesOnLink e i bytes (Err refused.NoLink) e' = (e.links ≤ i) × (e' ≡ e)
ReceivesOnLink e i bytes (Err (refused.Peer error)) e' = (i < e.links) × PeerStep e.peer (Receive i bytes) (Refused error) e'.peer
