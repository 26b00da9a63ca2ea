-- Parts that are joined to frames: what is kept of the bytes that came, and what is answered.
use Rattle.std.specs.Prelude.{◌≡◌, ℕ, ◌<◌, List, [], slice_index, Option, Some, None, Result, Ok, Err}
use Rattle.tp_frame.specs.declared.error.FrameError.{FrameError}
use Rattle.tp_frame.specs.declared.error.FrameError.TheVariants.{OutOfMemory}
use Rattle.tp_frame.specs.declared.frame.Frame.TheVariants.{Sync}
use Rattle.tp_frame.specs.declared.joining.Joiner.{Joiner}
use Rattle.tp_frame.specs.PartState.{PartState}
use Rattle.tp_frame.specs.Parts.{PartsBefore, IsPartStateOf}
use Rattle.tp_frame.specs.Reading.{frame_at, IsUnfinishedFrame}

-- a sync frame has begun, and `given` of it was given
abbrev pub with_given : List ℕ → ℕ → List ℕ → PartsBefore
with_given came len given = record { came = came; opened = Some (record { len = len; given = given }) }

-- no sync frame has begun
abbrev pub between : List ℕ → PartsBefore
between came = record { came = came; opened = None }

-- What led to the parts: of a sync frame that has begun nothing was given.
abbrev pub led_by : Option ℕ → List ℕ → PartsBefore
led_by None came = between came
led_by (Some len) came = with_given came len []

-- What is kept says what came, which is bytes.
pub record PartsMatchBytes (begun : Option ℕ) (came : List ℕ) (parts : PartState) : Type 0 where
  pub present : IsPartStateOf (led_by begun came) parts
  pub bytes : (i : ℕ) → slice_index came i < 256

abbrev pub JoinerInvariant : Joiner → Type 0
JoinerInvariant j = PartsMatchBytes j.begun j.came.bytes j.parts

-- The sync frame with this body was at the front of what came.
abbrev pub EndAnswers : List ℕ → List ℕ → PartState → Type 0
EndAnswers came body s = (rest : List ℕ) × (frame_at came ≡ Ok (Sync body, rest)) × IsPartStateOf (between rest) s

-- What is answered of a sync frame that has begun: its body, or that it isn't whole yet, or that memory for it was refused.
abbrev pub BodyAnswers : List ℕ → ℕ → Result (Option (List ℕ)) FrameError → PartState → Type 0
BodyAnswers came len (Ok (Some body)) s = EndAnswers came body s
BodyAnswers came len (Ok None) s = IsUnfinishedFrame came × IsPartStateOf (with_given came len []) s
BodyAnswers came len (Err e) s = (e ≡ OutOfMemory) × ((body : List ℕ) × (rest : List ℕ) × (frame_at came ≡ Ok (Sync body, rest))) × IsPartStateOf (with_given came len []) s
