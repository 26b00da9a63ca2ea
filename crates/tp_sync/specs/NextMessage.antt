-- What a peer answers to another one.
use Rattle.std.specs.Prelude.{◌≡◌, ℕ, List, Option, Some, None}
use Rattle.tp_sync.specs.Common.{ChangeParts, IsMessage, MessageParts}
use Rattle.tp_history.specs.Heads as head
use Rattle.tp_message.specs.Spelling.{message_spelling}
use Rattle.tp_sync.specs.State.{SyncParts}
use Rattle.tp_sync.specs.Due as of_due
use Rattle.tp_sync.specs.Known.{known_hashes}
use Rattle.tp_sync.specs.Wanting.{wanted_hashes}

-- Nothing is to be said: the heads were declared to the other, the other declared the same, and nothing is due.
pub record HasNothingToSend (C : List ChangeParts) (s : SyncParts) : Type 0 where
  pub declared : s.declared ≡ Some (head.heads C)
  pub even : of_due.IsInSync C s

-- The message m says what there is to say: the heads, what is wanted, what is known, and changes that are due. It is of
-- version 2, and leaves the state t.
pub record SendsMessage (C W : List ChangeParts) (s : SyncParts) (m : MessageParts) (t : SyncParts) : Type 0 where
  pub loud : HasNothingToSend C s → ⊥
  pub version : m.version ≡ 2
  pub heads : m.heads ≡ head.heads C
  pub wants : m.wants ≡ wanted_hashes C W s.theirs
  pub known : m.known ≡ known_hashes C
  pub changes : m.changes ≡ of_due.message_changes C s
  pub theirs : t.theirs ≡ s.theirs
  pub their_wants : t.wants ≡ s.wants
  pub their_known : t.known ≡ s.known
  pub declared : t.declared ≡ Some (head.heads C)
  pub next : of_due.MovesOn C (of_due.message_changes C s) s.next t.next
  pub again : t.again ≡ of_due.starts_over C s

-- What is answered where C is applied, W waits and s is known of the other, and what is known then: a message, or none
-- where nothing is to be said.
abbrev pub NextMessage : List ChangeParts → List ChangeParts → SyncParts → Option MessageParts → SyncParts → Type 0
NextMessage C W s None t = HasNothingToSend C s × (t ≡ s)
NextMessage C W s (Some m) t = SendsMessage C W s m t

-- The bytes are those of a message that is answered.
pub record SaysBytes (C W : List ChangeParts) (s : SyncParts) (bytes : List ℕ) (t : SyncParts) : Type 0 where
  pub message : MessageParts
  pub limits : IsMessage message
  pub spelled : bytes ≡ message_spelling message
  pub answers : NextMessage C W s (Some message) t

-- What is answered, and what is known then, where the message is given by its bytes.
abbrev pub AnswerBytes : List ChangeParts → List ChangeParts → SyncParts → Option (List ℕ) → SyncParts → Type 0
AnswerBytes C W s None t = NextMessage C W s None t
AnswerBytes C W s (Some bytes) t = SaysBytes C W s bytes t
