-- Reading the frame at the front of bytes: the frame and the bytes after it, or the fault that shows, or that bytes
-- are missing. The length is judged once it is whole, the kind once it is there, and all else once the body is whole.
use Rattle.std.specs.Prelude.{◌≡◌, ℕ, zero, suc, ◌-◌, ◌==◌, nat_le, nat_lt, List, [], ◌∷◌, length, Result, Ok, Err, if◌then◌else◌}
use Rattle.std.specs.Int.{w32}
use Rattle.tp_codec.specs.Prefix.{byte_at, bytes_at, number_at}
use Rattle.tp_codec.specs.Reading.{Reads, ◌>>=◌, ◌>>◌, give, fail, or_fail, require}
use Rattle.tp_frame.specs.declared.limits.TheConstants.{MAX_BODY}
use Rattle.tp_frame.specs.declared.error.FrameError.{FrameError}
use Rattle.tp_frame.specs.declared.error.FrameError.TheVariants.{TooLong, BadKind, BadHello}
use Rattle.tp_frame.specs.declared.frame.Frame.{Frame}
use Rattle.tp_frame.specs.declared.frame.Frame.TheVariants.{Hello, Sync, Done, Refusal}
use Rattle.tp_frame.specs.declared.reading.Head.{Head}
use Rattle.tp_frame.specs.declared.reading.NoFrame.{NoFrame}
use Rattle.tp_frame.specs.declared.reading.NoFrame.TheVariants.{Missing, Fault}
use Rattle.tp_frame.specs.Frame.{Body}

-- the length of a body that is not empty and within the limit, and a known kind
unfoldable pub head_at : Reads NoFrame Head
head_at = do
  len ← or_fail Missing (number_at w32)
  require (nat_le len MAX_BODY) (Fault TooLong)
  require (nat_le 1 len) (Fault BadKind)
  kind ← or_fail Missing byte_at
  require (nat_lt kind 4) (Fault BadKind)
  give (record { kind = kind; len = len - 1 })

-- a whole body
unfoldable pub body_at : Reads NoFrame Body
body_at = do
  head ← head_at
  content ← or_fail Missing (bytes_at head.len)
  give (record { kind = head.kind; content = content })

-- a version and the 16 bytes of a document
abbrev pub hello_of : List ℕ → Result Frame FrameError
hello_of [] = Err BadHello
hello_of (version ∷ id) = if length id == 16 then Ok (Hello version (record { 0 = id })) else Err BadHello

-- nothing
abbrev pub done_of : List ℕ → Result Frame FrameError
done_of [] = Ok Done
done_of (b ∷ bytes) = Err BadKind

-- a code
abbrev pub refusal_frame_of : List ℕ → Result Frame FrameError
refusal_frame_of [] = Err BadKind
refusal_frame_of (code ∷ []) = Ok (Refusal code)
refusal_frame_of (code ∷ b ∷ bytes) = Err BadKind

-- what is after a kind, as a frame
abbrev pub frame_after : ℕ → List ℕ → Result Frame FrameError
frame_after zero content = hello_of content
frame_after (suc zero) content = Ok (Sync content)
frame_after (suc (suc zero)) content = done_of content
frame_after (suc (suc (suc zero))) content = refusal_frame_of content
frame_after (suc (suc (suc (suc kind)))) content = Err BadKind

-- a frame that was judged
unfoldable pub frame_or_fault : Result Frame FrameError → Reads NoFrame Frame
frame_or_fault (Ok f) = give f
frame_or_fault (Err e) = fail (Fault e)

-- the frame at the front
unfoldable pub frame_at : Reads NoFrame Frame
frame_at = do
  body ← body_at
  frame_or_fault (frame_after body.kind body.content)

-- the bytes after what was read; all, where no frame was
abbrev pub after_read : List ℕ → Result (Frame × List ℕ) NoFrame → List ℕ
after_read bytes (Ok front) = front.1
after_read bytes (Err e) = bytes

-- the bytes after the frame at the front
abbrev pub after_frame : List ℕ → List ℕ
after_frame bytes = after_read bytes (frame_at bytes)

-- The bytes are no whole frame, and show no fault: more have to come.
abbrev pub IsUnfinishedFrame : List ℕ → Type 0
IsUnfinishedFrame bytes = frame_at bytes ≡ Err Missing

-- The frame at the front has the fault, whatever comes.
abbrev pub ShowsFault : List ℕ → FrameError → Type 0
ShowsFault bytes e = frame_at bytes ≡ Err (Fault e)
