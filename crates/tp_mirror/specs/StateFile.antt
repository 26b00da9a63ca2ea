-- The bytes of the state file, and how they are read from left to right: the first fault.
use Rattle.std.specs.Prelude.{ℕ, ◌<◌, ◌^◌, ◌==◌, nat_lt, List, [], ◌∷◌, ◌++◌, length, Bool, Result, Ok, Err, if◌then◌else◌}
use Rattle.std.specs.Int.{w64, to_be_bytes}
use Rattle.std.specs.List.{flat_map, AllByRecursion}
use Rattle.tp_list.specs.Bytes.{IsBytes}
use Rattle.tp_codec.specs.Prefix.{byte_at, bytes_at, number_at}
use Rattle.tp_codec.specs.Reading.{Reads, ◌>>=◌, ◌>>◌, give, or_fail, require, repeat_at}
use Rattle.tp_opid.specs.declared.actor.Actor.{Actor}
use Rattle.tp_opid.specs.declared.doc_id.DocId.{DocId}
use Rattle.tp_opid.specs.declared.hash.Hash.{Hash}
use Rattle.tp_mirror.specs.declared.known.Digest.{Digest}
use Rattle.tp_mirror.specs.declared.known.Known.{Known}
use Rattle.tp_mirror.specs.declared.known.TextAt.{TextAt}
use Rattle.tp_mirror.specs.declared.state.Author.{Author}
use Rattle.tp_mirror.specs.declared.state.Moved.{Moved}
use Rattle.tp_mirror.specs.declared.state.Name.{Name}
use Rattle.tp_mirror.specs.declared.state.State.{State}
use Rattle.tp_mirror.specs.declared.state_error.StateError.{StateError}
use Rattle.tp_mirror.specs.declared.state_error.StateError.TheVariants.{BadFlag, BadMagic, Trailing, Truncated}
use Rattle.tp_mirror.specs.declared.state_file.TheConstants.{MAGIC}

-- ---- what is written

-- a count of 8 bytes, and the values
unfoldable pub list_bytes : {X : Type 0} → (X → List ℕ) → List X → List ℕ
list_bytes spell xs = to_be_bytes w64 (length xs) ++ flat_map spell xs

abbrev pub head_bytes : Hash → List ℕ
head_bytes h = h.0

-- a digest of 32 bytes, and the heads
abbrev pub text_heads_bytes : TextAt → List ℕ
text_heads_bytes t = t.digest.0 ++ list_bytes head_bytes t.heads

-- a generation, and the text
abbrev pub known_bytes : Known → List ℕ
known_bytes k = to_be_bytes w64 k.generation ++ text_heads_bytes k.text

-- the end of a name, and what was read there
abbrev pub moved_bytes : Moved → List ℕ
moved_bytes m = m.name.0 ++ known_bytes m.known

-- an actor, and the number of its change
abbrev pub author_bytes : Author → List ℕ
author_bytes a = a.actor.0 ++ to_be_bytes w64 a.seq

-- a byte: 1 where it is so
abbrev pub flag_byte : Bool → List ℕ
flag_byte b = (if b then 1 else 0) ∷ []

unfoldable pub state_bytes : State → List ℕ
state_bytes s = to_be_bytes w64 MAGIC ++ (s.document.0 ++ (author_bytes s.author ++ (flag_byte s.is_away ++ (to_be_bytes w64 s.begun ++ (list_bytes known_bytes s.texts ++ list_bytes moved_bytes s.moved)))))

-- ---- what the types say

abbrev pub HashIsTyped : Hash → Type 0
HashIsTyped h = IsBytes 32 h.0

pub record TextIsTyped (t : TextAt) : Type 0 where
  pub digest : IsBytes 32 t.digest.0
  pub heads : AllByRecursion HashIsTyped t.heads
  pub count : length t.heads < 2 ^ 64

pub record KnownIsTyped (k : Known) : Type 0 where
  pub generation : k.generation < 2 ^ 64
  pub text : TextIsTyped k.text

pub record MovedIsTyped (m : Moved) : Type 0 where
  pub name : IsBytes 16 m.name.0
  pub known : KnownIsTyped m.known

pub record AuthorIsTyped (a : Author) : Type 0 where
  pub actor : IsBytes 16 a.actor.0
  pub seq : a.seq < 2 ^ 64

-- what the types of a program say of a state
pub record StateIsTyped (s : State) : Type 0 where
  pub document : IsBytes 16 s.document.0
  pub author : AuthorIsTyped s.author
  pub begun : s.begun < 2 ^ 64
  pub texts : AllByRecursion KnownIsTyped s.texts
  pub text_count : length s.texts < 2 ^ 64
  pub moved : AllByRecursion MovedIsTyped s.moved
  pub moved_count : length s.moved < 2 ^ 64

-- ---- what is read

-- n bytes, as a value
unfoldable pub wrapped_at : {X : Type 0} → ℕ → (List ℕ → X) → Reads StateError X
wrapped_at n wrap = do
  bytes ← or_fail Truncated (bytes_at n)
  give (wrap bytes)

abbrev pub as_hash : List ℕ → Hash
as_hash b = record { 0 = b }

abbrev pub state_hash_at : Reads StateError Hash
state_hash_at = wrapped_at 32 as_hash

-- values, by their count
abbrev pub items_at : {X : Type 0} → Reads StateError X → ℕ → Reads StateError (List X)
items_at item count = repeat_at (λ (_ : Unit {0}). item) (λ s _. s) count tt

-- a count, and that many values
unfoldable pub list_at : {X : Type 0} → Reads StateError X → Reads StateError (List X)
list_at item = do
  count ← or_fail Truncated (number_at w64)
  items_at item count

abbrev pub as_digest : List ℕ → Digest
as_digest b = record { 0 = b }

unfoldable pub text_heads_at : Reads StateError TextAt
text_heads_at = do
  digest ← wrapped_at 32 as_digest
  heads ← list_at state_hash_at
  give (record { digest = digest; heads = heads })

unfoldable pub known_text_at : Reads StateError Known
known_text_at = do
  generation ← or_fail Truncated (number_at w64)
  text ← text_heads_at
  give (record { generation = generation; text = text })

abbrev pub as_name : List ℕ → Name
as_name b = record { 0 = b }

unfoldable pub moved_at : Reads StateError Moved
moved_at = do
  name ← wrapped_at 16 as_name
  known ← known_text_at
  give (record { name = name; known = known })

abbrev pub as_actor : List ℕ → Actor
as_actor b = record { 0 = b }

unfoldable pub state_author_at : Reads StateError Author
state_author_at = do
  actor ← wrapped_at 16 as_actor
  seq ← or_fail Truncated (number_at w64)
  give (record { actor = actor; seq = seq })

-- 0 or 1
unfoldable pub flag_at : Reads StateError Bool
flag_at = do
  byte ← or_fail Truncated byte_at
  require (nat_lt byte 2) BadFlag
  give (byte == 1)

unfoldable pub magic_at : Reads StateError (Unit {0})
magic_at = do
  magic ← or_fail Truncated (number_at w64)
  require (magic == MAGIC) BadMagic

abbrev pub as_document : List ℕ → DocId
as_document b = record { 0 = b }

-- all fields
unfoldable pub fields_at : Reads StateError State
fields_at = do
  magic ← magic_at
  document ← wrapped_at 16 as_document
  author ← state_author_at
  is_away ← flag_at
  begun ← or_fail Truncated (number_at w64)
  texts ← list_at known_text_at
  moved ← list_at moved_at
  give (record { document = document; author = author; is_away = is_away; begun = begun; texts = texts; moved = moved })

-- and nothing follows
unfoldable pub end_of_state : Result (State × List ℕ) StateError → Result State StateError
end_of_state (Ok x) = if length x.1 == 0 then Ok x.0 else Err Trailing
end_of_state (Err e) = Err e

-- the state that the bytes are, or the first fault
unfoldable pub state_at : List ℕ → Result State StateError
state_at bytes = end_of_state (fields_at bytes)
