-- Frames one after another, and what the calls of a framer make of a stream.
use Rattle.std.specs.Prelude.{◌≡◌, List, ℕ, [], ◌∷◌, ◌++◌, Option, Some, None, Result, Ok, Err}
use Rattle.std.specs.List.{flat_map, AllByRecursion}
use Rattle.tp_frame.specs.declared.error.FrameError.{FrameError}
use Rattle.tp_frame.specs.declared.error.FrameError.TheVariants.{OutOfMemory}
use Rattle.tp_frame.specs.declared.frame.Frame.{Frame}
use Rattle.tp_frame.specs.declared.frame.Frame.TheVariants.{Sync}
use Rattle.tp_frame.specs.Frame.{frame_spelling, IsFrame}
use Rattle.tp_frame.specs.Reading.{frame_at, IsUnfinishedFrame, ShowsFault}

-- The bytes begin with the frames, in order, and rest is after them.
pub record BeginsWith (bytes : List ℕ) (frames : List Frame) (rest : List ℕ) : Type 0 where
  pub each : AllByRecursion IsFrame frames
  pub spelled : bytes ≡ flat_map frame_spelling frames ++ rest

-- The bytes are the frames, in order, and then less than a whole frame.
pub record Frames (bytes : List ℕ) (frames : List Frame) (rest : List ℕ) : Type 0 where
  pub begins : BeginsWith bytes frames rest
  pub ends : IsUnfinishedFrame rest

-- What was answered where the bytes were held, and what is held afterwards.
abbrev pub NextFrame : List ℕ → Result (Option Frame) FrameError → List ℕ → Type 0
NextFrame held (Ok (Some f)) rest = frame_at held ≡ Ok (f, rest)
NextFrame held (Ok None) rest = IsUnfinishedFrame held × (rest ≡ held)
NextFrame held (Err OutOfMemory) rest = ((bytes : List ℕ) × (beyond : List ℕ) × (frame_at held ≡ Ok (Sync bytes, beyond))) × (rest ≡ held)
NextFrame held (Err e) rest = ShowsFault held e × (rest ≡ held)

-- One call of a framer that changes what it holds: bytes are fed, or a frame is given.
pub data Step : Type 0 where
  Fed : List ℕ → Step
  Gave : Frame → Step

-- all bytes that are fed, in order
abbrev pub fed_in : List Step → List ℕ
fed_in [] = []
fed_in (Fed bytes ∷ steps) = bytes ++ fed_in steps
fed_in (Gave f ∷ steps) = fed_in steps

-- all frames that are given, in order
abbrev pub given_in : List Step → List Frame
given_in [] = []
given_in (Fed bytes ∷ steps) = given_in steps
given_in (Gave f ∷ steps) = f ∷ given_in steps

-- What a step makes of the bytes held: what is fed comes after them, and what is given is the frame at the front.
abbrev pub Makes : List ℕ → Step → List ℕ → Type 0
Makes held (Fed bytes) after = after ≡ held ++ bytes
Makes held (Gave f) after = frame_at held ≡ Ok (f, after)
