-- What a side answers to the parts of a frame, and its state between them.
use Rattle.std.specs.Prelude.{◌≡◌, ℕ, ◌+◌, ◌<◌, ◌≤◌, List, [], ◌++◌, length, slice_index, false, Option, Some, None, Result, Ok, Err}
use Rattle.tp_session.specs.Common.{Sync, Part, Begin, Piece, End, Whole, OpenedFrame, SyncError, ReaderState, reads, Reply}
use Rattle.tp_codec.specs.Gives.{FailsWith}
use Rattle.tp_message.specs.declared.error.SyncError.TheVariants.{OutOfMemory}
use Rattle.tp_message.specs.Reading.{message_at}
use Rattle.tp_peer.specs.PeerError.{refusal_of_sync}
use Rattle.tp_session.specs.HostCalls.{HostCall}
use Rattle.tp_session.specs.declared.error.NetError.TheVariants.{Peer}
use Rattle.tp_session.specs.declared.session.Phase.TheVariants.{Exchanges}
use Rattle.tp_session.specs.declared.turn.Turn.{Turn}
use Rattle.tp_session.specs.declared.turn.Ended.{Ended}
use Rattle.tp_session.specs.SessionState.{SessionState}
use Rattle.tp_session.specs.SessionStep.{RefusesSessionStep, SessionStep}

-- ---- the bytes of a message

-- What comes of reading what was given of a message of a given length: with whatever follows it is the message that is
-- still read; or, memory aside, all such messages are refused.
abbrev pub ReadsGiven : OpenedFrame → Result ReaderState SyncError → Type 0
ReadsGiven frame (Ok reader) = (length frame.given + reader.left ≡ frame.len) × ((i : ℕ) → slice_index frame.given i < 256) × ((rest : List ℕ) → message_at (frame.given ++ rest) ≡ reads reader rest)
ReadsGiven frame (Err e) = (more : List ℕ) → length (frame.given ++ more) ≡ frame.len → FailsWith OutOfMemory e (message_at (frame.given ++ more))

-- a sync frame of that many bytes, none of them given
abbrev pub none_of : ℕ → OpenedFrame
none_of len = record { len = len; given = [] }

-- the frame, with more of its bytes given
abbrev pub and_given : OpenedFrame → List ℕ → OpenedFrame
and_given frame bytes = record { len = frame.len; given = frame.given ++ bytes }

-- ---- the session

-- The session was s as the sync frame began, and reads what was given of it since.
pub record IsReading (s : SessionState) (frame : OpenedFrame) (s' : SessionState) : Type 0 where
  pub reader : ReaderState
  pub phase : s.phase ≡ Exchanges
  pub began : s ≡ record s' { reading = None }
  pub reading : s'.reading ≡ Some reader
  pub reads : ReadsGiven frame (Ok reader)

-- The session was s as the last frame ended, and nothing or a part of a sync frame came since.
abbrev pub IsAfterFrame : SessionState → Option OpenedFrame → SessionState → Type 0
IsAfterFrame s None s' = (s'.reading ≡ None) × (s ≡ s')
IsAfterFrame s (Some frame) s' = IsReading s frame s'

-- It goes on reading, and sends nothing; or what was read is refused.
abbrev pub ContinuesReading : SessionState → Result ReaderState SyncError → Result Turn Ended → SessionState → Type 0
ContinuesReading s (Ok reader) answer s' = (answer ≡ Ok (record { send = None; ended = false })) × (s' ≡ record s { reading = Some reader })
ContinuesReading s (Err e) answer s' = RefusesSessionStep s (Peer (refusal_of_sync e)) answer s'

-- A part of a sync frame came that doesn't end it: the session reads on, sends nothing and doesn't ask the host; or it
-- ends as every frame of this length that begins so would end it.
abbrev pub Awaits : {H : Type 0} → (H → HostCall → Reply → H → Type 0) → SessionState × H → OpenedFrame → Result Turn Ended → SessionState × H → Type 0
Awaits steps a frame (Ok turn) b = (turn ≡ record { send = None; ended = false }) × IsReading a.0 frame b.0 × (b.1 ≡ a.1)
Awaits steps a frame (Err ended) b =
    (more : List ℕ) → length (frame.given ++ more) ≡ frame.len → SessionStep steps a (Sync (frame.given ++ more)) (Err ended) b

-- From the side a, as the last frame ended, and what came of a sync frame since: what the next part leads to. A sync frame is
-- answered at its end, by the step for all its bytes, and any other frame as it comes. Of parts in another order nothing
-- is said.
abbrev pub SessionPartStep : {H : Type 0} → (H → HostCall → Reply → H → Type 0) → SessionState × H → Option OpenedFrame → Part → Result Turn Ended → SessionState × H → Type 0
SessionPartStep steps a None (Begin len) answer b = Awaits steps a (none_of len) answer b
SessionPartStep steps a (Some frame) (Piece bytes) answer b = length (frame.given ++ bytes) ≤ frame.len → Awaits steps a (and_given frame bytes) answer b
SessionPartStep steps a (Some frame) End answer b = length frame.given ≡ frame.len → SessionStep steps a (Sync frame.given) answer b
SessionPartStep steps a None (Whole frame) answer b = SessionStep steps a frame answer b
SessionPartStep steps a _ _ answer b = Unit {0}
