-- Parts of frames: what leads a framer of parts to where it is, what it answers there, and the frames that parts make.
use Rattle.std.specs.Prelude.{◌≡◌, ℕ, ◌+◌, ◌-◌, ◌<◌, ◌≤◌, ◌⊎◌, List, [], ◌∷◌, ◌++◌, length, slice_get, Option, Some, None, Result, Ok, Err}
use Rattle.std.specs.Int.{w32, to_be_bytes}
use Rattle.tp_frame.specs.declared.limits.TheConstants.{MAX_BODY}
use Rattle.tp_frame.specs.declared.error.FrameError.{FrameError}
use Rattle.tp_frame.specs.declared.error.FrameError.TheVariants.{OutOfMemory}
use Rattle.tp_frame.specs.declared.frame.Frame.{Frame}
use Rattle.tp_frame.specs.declared.frame.Frame.TheVariants.{Sync}
use Rattle.tp_frame.specs.declared.parts.Part.{Part}
use Rattle.tp_frame.specs.declared.parts.Part.TheVariants.{Begin, Piece, End, Whole}
use Rattle.tp_frame.specs.declared.parts.Stage.{Stage}
use Rattle.tp_frame.specs.declared.parts.Stage.TheVariants.{Front, Inside, Refused}
use Rattle.tp_frame.specs.Openings.{IsNotSync, IsDue}
use Rattle.tp_frame.specs.PartState.{PartState}
use Rattle.tp_frame.specs.Reading.{frame_at, IsUnfinishedFrame, ShowsFault}

-- a sync frame that has begun: how many bytes come after its kind, and those of them that were given
pub record OpenedFrame : Type 0 where
  pub len : ℕ
  pub given : List ℕ

-- What led to a state: the bytes that came since the last whole frame, and the sync frame that has begun with them.
pub record PartsBefore : Type 0 where
  pub came : List ℕ
  pub opened : Option OpenedFrame

-- no byte has come
abbrev pub at_first : PartsBefore
at_first = record { came = []; opened = None }

-- more bytes have come
abbrev pub with_more : PartsBefore → List ℕ → PartsBefore
with_more led bytes = record { came = led.came ++ bytes; opened = led.opened }

-- a sync frame has begun
abbrev pub with_opened : PartsBefore → ℕ → List ℕ → PartsBefore
with_opened led len given = record { came = led.came; opened = Some (record { len = len; given = given }) }

-- The bytes that came are a sync frame's; `left` of them are still to be given, and what is held comes next.
pub record IsInside (frame : OpenedFrame) (came : List ℕ) (left : ℕ) (held : List ℕ) : Type 0 where
  pub spelled : came ≡ to_be_bytes w32 (frame.len + 1) ++ 1 ∷ (frame.given ++ held)
  pub count : length frame.given + left ≡ frame.len
  pub size : frame.len < MAX_BODY

-- How what led to a state is kept in it: whole between frames and in the front of one, without what was given inside a
-- sync frame, and as the number of bytes to come where the frame is refused, whatever they are.
abbrev pub StandsIn : Option OpenedFrame → List ℕ → Stage → List ℕ → Type 0
StandsIn None came Front held = came ≡ held
StandsIn None came (Inside left) held = ⊥
StandsIn None came (Refused left e) held = IsDue came left e × (held ≡ [])
StandsIn (Some frame) came Front held = ⊥
StandsIn (Some frame) came (Inside left) held = IsInside frame came left held
StandsIn (Some frame) came (Refused left e) held = ⊥

abbrev pub IsPartStateOf : PartsBefore → PartState → Type 0
IsPartStateOf led s = StandsIn led.opened led.came s.stage s.held

-- What is given next, and what led there then: a sync frame as its begin, with the number of bytes after its kind, then
-- pieces of these that are not empty, and its end once all were given; another frame whole.
abbrev pub GivesPart : PartsBefore → Part → PartsBefore → Type 0
GivesPart before (Begin len) after = (before.opened ≡ None) × (after ≡ with_opened before len [])
GivesPart before (Piece bytes) after = (frame : OpenedFrame) × (before.opened ≡ Some frame) × (0 < length bytes) × (after ≡ with_opened before frame.len (frame.given ++ bytes))
GivesPart before End after = (frame : OpenedFrame) × (before.opened ≡ Some frame) × (length frame.given ≡ frame.len) × (frame_at before.came ≡ Ok (Sync frame.given, after.came)) × (after.opened ≡ None)
GivesPart before (Whole frame) after = (before.opened ≡ None) × IsNotSync frame × (frame_at before.came ≡ Ok (frame, after.came)) × (after.opened ≡ None)

-- A piece is as long as can be: it ends its frame, or is all that was held.
abbrev pub IsLongest : Part → PartState → Type 0
IsLongest (Begin len) s = Unit {0}
IsLongest (Piece bytes) s = (s.stage ≡ Inside 0) ⊎ (s.held ≡ [])
IsLongest End s = Unit {0}
IsLongest (Whole frame) s = Unit {0}

-- What is answered after what led to a state, and the state then. Memory is refused at a piece alone.
abbrev pub PartAnswers : PartsBefore → Result (Option Part) FrameError → PartState → Type 0
PartAnswers led (Ok (Some part)) s = (after : PartsBefore) × GivesPart led part after × IsPartStateOf after s × IsLongest part s
PartAnswers led (Ok None) s = IsUnfinishedFrame led.came × IsPartStateOf led s × (length s.held ≤ 21)
PartAnswers led (Err OutOfMemory) s = (frame : OpenedFrame) × (led.opened ≡ Some frame) × (length frame.given < frame.len) × IsPartStateOf led s
PartAnswers led (Err e) s = (led.opened ≡ None) × ShowsFault led.came e × IsPartStateOf led s

-- the kind of a sync frame is there
abbrev pub HasSyncKind : List ℕ → Type 0
HasSyncKind bytes = slice_get bytes 4 ≡ Some 1

-- What is held while more has to come: between frames no kind of a sync frame, and inside one nothing.
abbrev pub MayWait : Stage → List ℕ → Type 0
MayWait Front held = HasSyncKind held → ⊥
MayWait (Inside left) held = held ≡ []
MayWait (Refused left e) held = Unit {0}

-- what is answered inside a sync frame that has `left` bytes still to be given
abbrev pub InsideAnswers : ℕ → List ℕ → Result (Option Part) FrameError → PartState → Type 0
InsideAnswers left held (Ok (Some (Begin len))) s = ⊥
InsideAnswers left held (Ok (Some (Piece bytes))) s = (0 < length bytes) × (length bytes ≤ left) × (held ≡ bytes ++ s.held) × (s.stage ≡ Inside (left - length bytes)) × ((length bytes ≡ left) ⊎ (s.held ≡ []))
InsideAnswers left held (Ok (Some End)) s = (left ≡ 0) × (s ≡ record { stage = Front; held = held })
InsideAnswers left held (Ok (Some (Whole frame))) s = ⊥
InsideAnswers left held (Ok None) s = (0 < left) × (held ≡ []) × (s ≡ record { stage = Inside left; held = held })
InsideAnswers left held (Err e) s = (e ≡ OutOfMemory) × (0 < left) × (s ≡ record { stage = Inside left; held = held })

-- The parts, with the pieces of each sync frame joined, are the frames, followed by the sync frame that has not ended.
abbrev pub JoinedFrom : Option OpenedFrame → List Part → List Frame → Option OpenedFrame → Type 0
JoinedFrom opened [] [] left = opened ≡ left
JoinedFrom opened [] (f ∷ frames) left = ⊥
JoinedFrom opened (Begin len ∷ parts) frames left = (opened ≡ None) × JoinedFrom (Some (record { len = len; given = [] })) parts frames left
JoinedFrom opened (Piece bytes ∷ parts) frames left = (frame : OpenedFrame) × (opened ≡ Some frame) × (0 < length bytes) × JoinedFrom (Some (record { len = frame.len; given = frame.given ++ bytes })) parts frames left
JoinedFrom opened (End ∷ parts) [] left = ⊥
JoinedFrom opened (End ∷ parts) (f ∷ frames) left = (frame : OpenedFrame) × (opened ≡ Some frame) × (length frame.given ≡ frame.len) × (f ≡ Sync frame.given) × JoinedFrom None parts frames left
JoinedFrom opened (Whole whole ∷ parts) [] left = ⊥
JoinedFrom opened (Whole whole ∷ parts) (f ∷ frames) left = (opened ≡ None) × IsNotSync whole × (f ≡ whole) × JoinedFrom None parts frames left

abbrev pub Parts : List Part → List Frame → Option OpenedFrame → Type 0
Parts parts frames left = JoinedFrom None parts frames left

-- One call of a framer of parts that changes what led to it: bytes are fed, or a part is given.
pub data PartStep : Type 0 where
  Fed : List ℕ → PartStep
  Gave : Part → PartStep

-- all bytes that are fed, in order
abbrev pub all_fed : List PartStep → List ℕ
all_fed [] = []
all_fed (Fed bytes ∷ steps) = bytes ++ all_fed steps
all_fed (Gave part ∷ steps) = all_fed steps

-- all parts that are given, in order
abbrev pub all_given : List PartStep → List Part
all_given [] = []
all_given (Fed bytes ∷ steps) = all_given steps
all_given (Gave part ∷ steps) = part ∷ all_given steps

-- The steps lead from the one to the other.
abbrev pub PartsLead : PartsBefore → List PartStep → PartsBefore → Type 0
PartsLead before [] after = before ≡ after
PartsLead before (Fed bytes ∷ steps) after = PartsLead (with_more before bytes) steps after
PartsLead before (Gave part ∷ steps) after = (between : PartsBefore) × GivesPart before part between × PartsLead between steps after
