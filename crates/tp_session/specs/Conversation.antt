-- A side of a session that takes bytes as they come: what it holds of them, and what they lead to.
use Rattle.std.specs.Prelude.{◌≡◌, ◌⊎◌, ℕ, ◌<◌, List, [], ◌++◌, slice_index, Bool, true, false, Option, Some, None, Ok, Err}
use Rattle.tp_session.specs.Common.{FrameError, Part, Begin, Piece, End, Whole, PartsBefore, OpenedFrame, IsPartStateOf, Reply}
use Rattle.tp_frame.specs.declared.frame.Frame.{Frame as FrameOf}
use Rattle.tp_frame.specs.Frame.{frame_spelling, IsFrame}
use Rattle.tp_frame.specs.PartState.{PartState}
use Rattle.tp_frame.specs.Reading.{IsUnfinishedFrame, ShowsFault}
use Rattle.tp_session.specs.declared.conversation.Next.{Next}
use Rattle.tp_session.specs.declared.conversation.Next.TheVariants as next
use Rattle.tp_session.specs.declared.error.NetError.{NetError}
use Rattle.tp_session.specs.declared.error.NetError.TheVariants.{Frame, OutOfMemory}
use Rattle.tp_session.specs.declared.turn.Turn.{Turn}
use Rattle.tp_session.specs.HostCalls.{HostCall}
use Rattle.tp_session.specs.Laws.{is_over}
use Rattle.tp_session.specs.NetError.{refusal_of}
use Rattle.tp_session.specs.PartStep.{IsAfterFrame}
use Rattle.tp_session.specs.SessionState.{SessionState}
use Rattle.tp_session.specs.SessionStep.{SessionStep}

-- ---- what is held

-- the session as the last frame left it, and the bytes that came since
pub record ConversationState : Type 0 where
  pub session : SessionState
  pub bytes : List ℕ

-- a session as the last frame left it
abbrev pub at_frame : SessionState → SessionState
at_frame now = record now { reading = None }

-- The session was s as the last frame ended. What came since are bytes: the framer keeps those that weren't given yet,
-- and the session what was given of a sync frame.
pub record IsAmid (s : SessionState) (led : PartsBefore) (now : SessionState) (framer : PartState) : Type 0 where
  pub bytes : (i : ℕ) → slice_index led.came i < 256
  pub kept : IsPartStateOf led framer
  pub reading : IsAfterFrame s led.opened now

-- The bytes are those that came since the last frame ended.
abbrev pub HasCome : List ℕ → SessionState → PartState → Type 0
HasCome came now framer = (opened : Option OpenedFrame) × IsAmid (at_frame now) (record { came = came; opened = opened }) now framer

-- whether a frame ends with the part
abbrev pub is_last : Part → Bool
is_last (Begin len) = false
is_last (Piece bytes) = false
is_last End = true
is_last (Whole frame) = true

-- ---- the next frame is answered

-- the bytes of a frame, if there is one
abbrev pub frame_bytes : Option FrameOf → List ℕ
frame_bytes None = []
frame_bytes (Some f) = frame_spelling f

-- From a the next frame, of the bytes held and those that came after them, is answered by the turn.
pub record AnswersNextFrame {H : Type 0} (steps : H → HostCall → Reply → H → Type 0) (a : SessionState × H) (held : List ℕ) (turn : Turn) (rest : List ℕ) (b : SessionState × H) : Type 0 where
  pub frame : FrameOf
  pub is_frame : IsFrame frame
  pub front : held ≡ frame_spelling frame ++ rest
  pub step : SessionStep steps a frame (Ok turn) b

-- The next frame was answered by the turn, if it is whole; or nothing was done.
abbrev pub TakesNext : {H : Type 0} → (H → HostCall → Reply → H → Type 0) → SessionState × H → List ℕ → Option Turn → List ℕ → SessionState × H → Type 0
TakesNext steps a held None rest b = IsUnfinishedFrame held × (rest ≡ held) × (b ≡ a)
TakesNext steps a held (Some turn) rest b = AnswersNextFrame steps a held turn rest b

-- The next frame was answered, by these bytes, and what is after it is held: whether the session has ended by it.
pub record AnswersFrame {H : Type 0} (steps : H → HostCall → Reply → H → Type 0) (a : SessionState × H) (held : List ℕ) (ended : Bool) (send : List ℕ) (b : SessionState × H) (rest : List ℕ) : Type 0 where
  pub turn : Turn
  pub takes : AnswersNextFrame steps a held turn rest b
  pub sent : send ≡ frame_bytes turn.send
  pub over : is_over b.0.phase ≡ ended

-- What a side answers that has come to a and holds the bytes, and how it is then, by how it goes on.
abbrev pub Goes : {H : Type 0} → (H → HostCall → Reply → H → Type 0) → SessionState × H → List ℕ → Next → List ℕ → SessionState × H → List ℕ → Type 0
Goes steps a held next.Waits send b rest = IsUnfinishedFrame held × (send ≡ []) × (b ≡ a) × (rest ≡ held)
Goes steps a held next.GoesOn send b rest = AnswersFrame steps a held false send b rest
Goes steps a held next.Ended send b rest = AnswersFrame steps a held true send b rest

-- ---- where a session breaks off

-- No frame comes: memory was refused for what came, or what came is no frame.
abbrev pub IsNoFrame : List ℕ → NetError → Type 0
IsNoFrame held e = (e ≡ OutOfMemory) ⊎ ((e ≡ Frame) × (fault : FrameError) × ShowsFault held fault)

-- The bytes held, and what may come after them, begin with the frame.
abbrev pub MayBeNext : List ℕ → FrameOf → Type 0
MayBeNext held frame = IsFrame frame × (more : List ℕ) × (rest : List ℕ) × (held ++ more ≡ frame_spelling frame ++ rest)

-- The next frame ends the session for an error, by one step. Where it isn't whole yet, each that begins so would.
pub record EndsBy {H : Type 0} (steps : H → HostCall → Reply → H → Type 0) (a : SessionState × H) (held : List ℕ) (e : NetError) (h' : H) : Type 0 where
  pub frame : FrameOf
  pub next : MayBeNext held frame
  pub session : SessionState
  pub each : (f : FrameOf) → MayBeNext held f → SessionStep steps a f (Err (record { error = e; send = refusal_of e })) (session, h')

-- A frame has no bytes: memory was refused for them, or it is too long.
abbrev pub HasNoBytes : NetError → Type 0
HasNoBytes e = (e ≡ OutOfMemory) ⊎ (e ≡ Frame)

-- From a the next frame is answered, and the answer isn't sent.
pub record LeavesUnsent {H : Type 0} (steps : H → HostCall → Reply → H → Type 0) (a : SessionState × H) (held : List ℕ) (h' : H) : Type 0 where
  pub turn : Turn
  pub rest : List ℕ
  pub session : SessionState
  pub answer : FrameOf
  pub takes : AnswersNextFrame steps a held turn rest (session, h')
  pub to_send : turn.send ≡ Some answer

-- Why a side breaks off that has come to a and holds the bytes, and what is seen of its host then.
abbrev pub RefusesFeed : {H : Type 0} → (H → HostCall → Reply → H → Type 0) → SessionState × H → List ℕ → NetError → H → Type 0
RefusesFeed steps a held e h' = (IsNoFrame held e × (h' ≡ a.1)) ⊎ (EndsBy steps a held e h' ⊎ (LeavesUnsent steps a held h' × HasNoBytes e))
