-- What is found at the front of bytes, before a frame is whole.
use Rattle.std.specs.Prelude.{◌≡◌, ℕ, zero, suc, ◌+◌, ◌<◌, ◌≤◌, List, ◌∷◌, ◌++◌, length, drop, Ok}
use Rattle.std.specs.Int.{w32, to_be_bytes}
use Rattle.tp_frame.specs.declared.limits.TheConstants.{MAX_BODY, HEADER_LEN}
use Rattle.tp_frame.specs.declared.error.FrameError.{FrameError}
use Rattle.tp_frame.specs.declared.error.FrameError.TheVariants.{BadKind, BadHello, OutOfMemory}
use Rattle.tp_frame.specs.declared.frame.Frame.{Frame}
use Rattle.tp_frame.specs.declared.frame.Frame.TheVariants as frame_of
use Rattle.tp_frame.specs.declared.reading.Opening.{Opening}
use Rattle.tp_frame.specs.declared.reading.Opening.TheVariants.{Sync, Whole, Refused}
use Rattle.tp_frame.specs.Reading.{frame_at, IsUnfinishedFrame, ShowsFault}

-- how many bytes come after a kind, but for a sync frame's
abbrev pub right_len : ℕ → ℕ
right_len zero = 17
right_len (suc zero) = 1
right_len (suc (suc zero)) = 0
right_len (suc (suc (suc kind))) = 1

-- the fault of a frame of a kind, where another number of bytes comes after it
abbrev pub fault_of : ℕ → FrameError
fault_of zero = BadHello
fault_of (suc kind) = BadKind

-- a frame of another kind than sync
abbrev pub IsNotSync : Frame → Type 0
IsNotSync (frame_of.Hello version id) = Unit {0}
IsNotSync (frame_of.Sync bytes) = ⊥
IsNotSync frame_of.Done = Unit {0}
IsNotSync (frame_of.Refusal code) = Unit {0}

-- Whatever comes, once `left` more bytes are there the frame at the front has the fault, and before that more have to
-- come.
pub record IsDue (came : List ℕ) (left : ℕ) (e : FrameError) : Type 0 where
  pub waits : (more : List ℕ) → length more < left → IsUnfinishedFrame (came ++ more)
  pub shows : (more : List ℕ) → left ≤ length more → ShowsFault (came ++ more) e
  pub memory : e ≡ OutOfMemory → ⊥

-- What is at the front of the bytes: a sync frame of `len` bytes after its kind, another frame that is whole, or
-- one that is refused once `left` more bytes came.
abbrev pub IsOpening : List ℕ → Opening → Type 0
IsOpening bytes (Sync len) = (HEADER_LEN ≤ length bytes) × (len < MAX_BODY) × (bytes ≡ to_be_bytes w32 (len + 1) ++ 1 ∷ drop HEADER_LEN bytes)
IsOpening bytes (Whole frame len) = (len ≤ length bytes) × (frame_at bytes ≡ Ok (frame, drop len bytes)) × IsNotSync frame
IsOpening bytes (Refused left e) = IsDue bytes left e
