-- What contracts see of a reader of messages: how far it has come, and what its calls answer.
use Rattle.std.specs.Prelude.{◌≡◌, ◌⊎◌, ℕ, ◌+◌, ◌<◌, ◌≤◌, List, [], ◌++◌, length, take, slice_index, Result, Ok, Err, IsTrue}
use Rattle.tp_message.specs.Common.{MAX_BYTES}
use Rattle.tp_message.specs.declared.error.SyncError.{SyncError}
use Rattle.tp_message.specs.declared.error.SyncError.TheVariants.{OutOfMemory}
use Rattle.tp_message.specs.declared.stages.Stage.{Stage}
use Rattle.tp_message.specs.declared.stages.Stage.TheVariants.{Failed}
use Rattle.tp_message.specs.Message.{MessageParts}
use Rattle.tp_message.specs.Reading.{message_at, end_or_fail}
use Rattle.tp_message.specs.Stages.{is_whole, need, rest_at}
use Rattle.tp_message.specs.Steps.{IsWithinField}

-- What comes next, the parts that were read, the bytes of a field that isn't whole yet, and how many bytes are left.
pub record ReaderState : Type 0 where
  pub stage : Stage
  pub parts : MessageParts
  pub held : List ℕ
  pub left : ℕ

-- the message that all bytes are, or the first fault, where these are the bytes that weren't taken yet
unfoldable pub reads : ReaderState → List ℕ → Result MessageParts SyncError
reads s bytes = end_or_fail (rest_at s.stage s.parts (s.held ++ bytes))

-- The first bytes of the piece, `count` of them, were taken: with whatever follows them the message stays the same.
pub record TakesPiece (s : ReaderState) (piece : List ℕ) (count : ℕ) (t : ReaderState) : Type 0 where
  pub few : count ≤ length piece
  pub left : t.left + count ≡ s.left
  pub same : (rest : List ℕ) → reads s (take count piece ++ rest) ≡ reads t rest
  -- none only where there are none
  pub some : count ≡ 0 → (piece ≡ []) ⊎ (s.left ≡ 0)
  -- once all were taken, only of a whole message
  pub whole : s.left ≡ 0 → IsTrue (is_whole s.stage)

-- The bytes taken of the piece are no more than the field that comes next still lacks: they end it, or are all.
abbrev pub EndsAtField : ReaderState → List ℕ → ℕ → Type 0
EndsAtField s piece count = (length s.held + count ≤ need s.stage) × ((length s.held + count ≡ need s.stage) ⊎ (count ≡ length piece))

-- The message was refused, since it is with whatever follows some of the bytes.
pub record RefusesPiece (s : ReaderState) (piece : List ℕ) (e : SyncError) (t : ReaderState) : Type 0 where
  pub count : ℕ
  pub few : count ≤ length piece
  pub left : t.left + count ≡ s.left
  pub every : (rest : List ℕ) → length rest ≡ t.left → reads s (take count piece ++ rest) ≡ Err e
  pub stays : t.stage ≡ Failed e

-- what is answered for a piece, and the state afterwards
abbrev pub ReadsPiece : ReaderState → List ℕ → Result ℕ SyncError → ReaderState → Type 0
ReadsPiece s piece (Ok count) t = TakesPiece s piece count t
ReadsPiece s piece (Err OutOfMemory) t = t ≡ s
ReadsPiece s piece (Err e) t = RefusesPiece s piece e t

-- some bytes led to the state: with those that are left they are the message that is still read
pub record IsLed (s : ReaderState) : Type 0 where
  pub bytes : List ℕ
  pub small : (i : ℕ) → slice_index bytes i < 256
  pub same : (rest : List ℕ) → length rest ≡ s.left → message_at (bytes ++ rest) ≡ reads s rest

-- what holds of every reader
pub record IsReader (s : ReaderState) : Type 0 where
  pub few : length s.held ≤ MAX_BYTES
  pub present : IsWithinField s.stage (length s.held) s.left
  pub led : IsLed s
