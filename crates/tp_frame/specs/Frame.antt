-- Frames and their bytes.
use Rattle.std.specs.Prelude.{◌≡◌, ℕ, ◌+◌, ◌<◌, ◌≤◌, List, [], ◌∷◌, ◌++◌, length, slice_index}
use Rattle.std.specs.Int.{w32, to_be_bytes}
use Rattle.tp_frame.specs.declared.limits.TheConstants.{MAX_BODY}
use Rattle.tp_frame.specs.declared.frame.Frame.{Frame}
use Rattle.tp_frame.specs.declared.frame.Frame.TheVariants.{Hello, Sync, Done, Refusal}

-- what a frame's length counts: a kind, and the bytes after it
pub record Body : Type 0 where
  pub kind : ℕ
  pub content : List ℕ

-- kind 00 for hello, 01 for sync, 02 for done, 03 for a refusal
abbrev pub body_of : Frame → Body
body_of (Hello version id) = record { kind = 0; content = version ∷ id.0 }
body_of (Sync bytes) = record { kind = 1; content = bytes }
body_of Done = record { kind = 2; content = [] }
body_of (Refusal code) = record { kind = 3; content = code ∷ [] }

-- how many bytes a body has
abbrev pub body_len : Body → ℕ
body_len b = length b.content + 1

-- the length of a body in 4 bytes, and the body
abbrev pub spelling_of_body : Body → List ℕ
spelling_of_body b = to_be_bytes w32 (body_len b) ++ b.kind ∷ b.content

-- the bytes of a frame
unfoldable pub frame_spelling : Frame → List ℕ
frame_spelling f = spelling_of_body (body_of f)

-- What the types of a program say of a frame: numbers of a byte are below 256, and a document has 16 of them.
abbrev pub IsTypedFrame : Frame → Type 0
IsTypedFrame (Hello version id) = (version < 256) × (length id.0 ≡ 16) × ((i : ℕ) → slice_index id.0 i < 256)
IsTypedFrame (Sync bytes) = (i : ℕ) → slice_index bytes i < 256
IsTypedFrame Done = Unit {0}
IsTypedFrame (Refusal code) = code < 256

-- A frame within the limit: all that has a spelling.
pub record IsFrame (f : Frame) : Type 0 where
  pub typed : IsTypedFrame f
  pub size : body_len (body_of f) ≤ MAX_BODY
