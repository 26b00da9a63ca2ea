-- The transcript of a session on one side: the frames that came, and the turns that answered them.
use Rattle.std.specs.Prelude.{◌≡◌, ℕ, List, ◌++◌, map, option_to_list, Ok}
use Rattle.tp_session.specs.Common.{Frame, Reply}
use Rattle.std.specs.List.{flat_map}
use Rattle.tp_list.specs.Traces.{Trace}
use Rattle.tp_frame.specs.Stream.{BeginsWith}
use Rattle.tp_session.specs.declared.turn.Turn.{Turn}
use Rattle.tp_session.specs.HostCalls.{HostCall}
use Rattle.tp_session.specs.SessionState.{SessionState, first_frame_of}
use Rattle.tp_session.specs.SessionStep.{SessionStep}

-- What went over the stream: the bytes that were read, and the frames that were sent.
pub record Traffic : Type 0 where
  pub read : List ℕ
  pub sent : List Frame

-- A frame that came, and the turn that answered it.
pub record AnsweredFrame : Type 0 where
  pub frame : Frame
  pub turn : Turn

-- the frames that came, in order
abbrev pub frames_of : List AnsweredFrame → List Frame
frames_of = map (λ (x : AnsweredFrame). x.frame)

-- the frames that the turns send, in order
abbrev pub answers_of : List AnsweredFrame → List Frame
answers_of = flat_map (λ (x : AnsweredFrame). option_to_list x.turn.send)

-- The frame was answered by one step, which led the side from a to b.
abbrev pub IsFrameAnswered : {H : Type 0} → (H → HostCall → Reply → H → Type 0) → SessionState × H → AnsweredFrame → SessionState × H → Type 0
IsFrameAnswered steps a x b = SessionStep steps a x.frame (Ok x.turn) b

-- A side has come from a to b by the bytes that came: they begin with frames that were each answered, in order, and
-- `held` is what is after these. `sent` are the answers.
pub record TakesAll {H : Type 0} (steps : H → HostCall → Reply → H → Type 0) (a : SessionState × H) (came : List ℕ) (sent : List Frame) (held : List ℕ) (b : SessionState × H) : Type 0 where
  pub transcript : List AnsweredFrame
  pub trace : Trace (IsFrameAnswered steps) a transcript b
  pub frames : BeginsWith came (frames_of transcript) held
  pub answers : sent ≡ answers_of transcript

-- A side has come from a, where it began, to b. It sent its first frame, if it has one, and then its answers.
pub record Comes {H : Type 0} (steps : H → HostCall → Reply → H → Type 0) (a : SessionState × H) (w : Traffic) (held : List ℕ) (b : SessionState × H) : Type 0 where
  pub answers : List Frame
  pub takes : TakesAll steps a w.read answers held b
  pub sent : w.sent ≡ option_to_list (first_frame_of a.0.role a.0.id) ++ answers
