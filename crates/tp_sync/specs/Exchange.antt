-- What an exchange does: at most three messages, each received at once.
use Rattle.std.specs.Prelude.{◌≡◌, ◌⊎◌, ◌<◌, [], length, ◌||◌, IsSomeAnd, Result, Ok, Err}
use Rattle.tp_sync.specs.Common.{Hash, In, DocState, MAX_HASHES, MessageParts}
use Rattle.tp_opid.specs.declared.doc_id.DocId.{DocId}
use Rattle.tp_receive.specs.Outcome.{ReceivesAlone, Done, Stopped, report_of}
use Rattle.tp_document.specs.Applying.{kept_by_none}
use Rattle.tp_history.specs.declared.error.GraphError.{GraphError}
use Rattle.tp_history.specs.declared.error.GraphError.TheVariants.{Known}
use Rattle.tp_history.specs.Heads as head
use Rattle.tp_receive.specs.declared.intake.Applied.{Applied}
use Rattle.tp_message.specs.declared.error.SyncError.{SyncError}
use Rattle.tp_sync.specs.declared.exchanging.Exchanged.{Exchanged}
use Rattle.tp_message.specs.declared.error.SyncError.TheVariants.{TooManyHeads, OutOfMemory, OtherDocument}
use Rattle.tp_sync.specs.State.{SyncParts, new_sync_state, after_message}
use Rattle.tp_sync.specs.Due.{is_truncated}
use Rattle.tp_sync.specs.NextMessage.{HasNothingToSend, SendsMessage}
use Rattle.tp_sync.specs.Receiving.{receive_error_of}

-- A document and what is known of the other.
pub record Side : Type 0 where
  pub document : DocState
  pub state : SyncParts

-- the side of these parts
abbrev pub side : DocState → SyncParts → Side
side d s = record { document = d; state = s }

-- One side made a message and went on with the state `declared`; the other received it, became `to'`, and reported r.
pub record PassesMessage (from : Side) (declared : SyncParts) (to to' : Side) (r : Applied) : Type 0 where
  pub message : MessageParts
  pub says : SendsMessage from.document.applied from.document.waiting from.state message declared
  pub takes : ReceivesAlone (kept_by_none to.document) message.changes (kept_by_none to'.document) (Done (report_of r))
  pub hears : to'.state ≡ after_message to.state message

-- Nothing entered, nothing waits of what came, and nothing was refused.
pub record IsNothing (r : Applied) : Type 0 where
  pub applied : r.applied.items ≡ []
  pub held : r.held.items ≡ []
  pub refused : r.refused.items ≡ []

-- Nothing was to be said: the other side stays, and nothing is reported.
pub record Rests (from : Side) (to to' : Side) (r : Applied) : Type 0 where
  pub quiet : HasNothingToSend from.document.applied from.state
  pub stays : to' ≡ to
  pub nothing : IsNothing r

-- One side passed a last message, or rested.
abbrev pub PassesOrRests : Side → Side → Side → Applied → Type 0
PassesOrRests from to to' r = ((declared : SyncParts) × PassesMessage from declared to to' r) ⊎ Rests from to to' r

-- What b did once it had the heads of a: it answered, and a answered that, or had nothing to say. Reported are what
-- these two messages did, and whether one of them left out changes that were due.
pub record Replies (a b : Side) (a' b' : DocState) (r : Exchanged) : Type 0 where
  -- what b knows once it answered, what a knows then, and what b knows in the end
  pub answered : SyncParts
  pub knows : SyncParts
  pub ends : SyncParts
  pub second : PassesMessage b answered a (side a' knows) r.into_a
  pub third : PassesOrRests (side a' knows) (side b.document answered) (side b' ends) r.into_b
  pub left_out : r.cut ≡ (is_truncated b.document.applied b.state || is_truncated a'.applied knows)

-- What an exchange did of the documents a and b, which became a' and b': a declared its heads to b, and b replied.
pub record Exchanges (a b a' b' : DocState) (r : Exchanged) : Type 0 where
  -- what a knows once it has sent them, b then, and what the message did
  pub declared : SyncParts
  pub asked : Side
  pub begun : Applied
  pub first : PassesMessage (side a new_sync_state) declared (side b new_sync_state) asked begun
  pub replies : Replies (side a declared) asked a' b' r

-- Nothing was refused but what was known.
abbrev pub RefusesKnownAlone : Applied → Type 0
RefusesKnownAlone r = (h : Hash) (e : GraphError) → In (h, e) r.refused.items → e ≡ Known

-- Why a message wasn't made: only the heads are too many, or memory was refused.
abbrev pub CantSay : DocState → SyncError → Type 0
CantSay d e = ((e ≡ TooManyHeads) × (MAX_HASHES < length (head.heads d.applied))) ⊎ (e ≡ OutOfMemory)

-- One message wasn't made, and the other document stays; or it was received in part.
abbrev pub RefusesPass : Side → DocState → SyncError → DocState → Type 0
RefusesPass from to e to' =
    (CantSay from.document e × (to' ≡ to))
    ⊎ ((m : MessageParts) × (declared : SyncParts) × SendsMessage from.document.applied from.document.waiting from.state m declared
    × IsSomeAnd (receive_error_of e) (λ why. ReceivesAlone (kept_by_none to) m.changes (kept_by_none to') (Stopped why)))

-- The third message was refused, once the second was received.
pub record StopsLate (a b : Side) (a' b' : DocState) (e : SyncError) : Type 0 where
  pub answered : SyncParts
  pub knows : SyncParts
  pub into_a : Applied
  pub second : PassesMessage b answered a (side a' knows) into_a
  pub fails : RefusesPass (side a' knows) b.document e b'

-- The second message was refused, or the third was.
abbrev pub RefusesReply : Side → Side → SyncError → DocState → DocState → Type 0
RefusesReply a b e a' b' = ((b' ≡ b.document) × RefusesPass b a.document e a') ⊎ StopsLate a b a' b' e

-- A later message than the first was refused.
pub record StopsBehind (a b a' b' : DocState) (e : SyncError) : Type 0 where
  pub declared : SyncParts
  pub asked : Side
  pub begun : Applied
  pub first : PassesMessage (side a new_sync_state) declared (side b new_sync_state) asked begun
  pub fails : RefusesReply (side a declared) asked e a' b'

-- How messages that were refused left the documents a and b: as what those before did.
abbrev pub ExchangeStops : DocState → DocState → DocState → DocState → SyncError → Type 0
ExchangeStops a b a' b' e = ((a' ≡ a) × RefusesPass (side a new_sync_state) b e b') ⊎ StopsBehind a b a' b' e

-- How an exchange that was refused left them.
abbrev pub RefusesExchange : DocState → DocState → SyncError → DocState → DocState → Type 0
RefusesExchange a b e a' b' = ((e ≡ OtherDocument) × (a' ≡ a) × (b' ≡ b)) ⊎ ExchangeStops a b a' b' e

-- OtherDocument is answered exactly where the identifiers differ.
abbrev pub IsOtherOnly : {T : Type 0} → Result T SyncError → DocId → DocId → Type 0
IsOtherOnly (Ok x) a b = a ≡ b
IsOtherOnly (Err OtherDocument) a b = a ≡ b → ⊥
IsOtherOnly (Err _) a b = a ≡ b
