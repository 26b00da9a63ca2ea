-- What a mirror leaves at each of its calls: the state file, the journal, NOTE, and the files that were moved away.
use Rattle.std.specs.Prelude.{◌≡◌, ◌⊎◌, ◌<◌, Bool, true, false, List, [], ◌∷◌, ◌++◌, Option, Some, None, if◌then◌else◌}
use Rattle.tp_list.specs.Members.{In}
use Rattle.tp_opid.specs.declared.hash.Hash.{Hash}
use Rattle.tp_mirror.specs.declared.known.Digest.{Digest}
use Rattle.tp_mirror.specs.declared.known.Known.{Known}
use Rattle.tp_mirror.specs.declared.known.TextAt.{TextAt}
use Rattle.tp_mirror.specs.declared.state.Moved.{Moved}
use Rattle.tp_mirror.specs.declared.state.Name.{Name}
use Rattle.tp_mirror.specs.declared.state.State.{State}
use Rattle.tp_mirror.specs.declared.workspace.Look.{Look}
use Rattle.tp_mirror.specs.declared.workspace.Look.TheVariants.{Absent, Busy, NotText, Empty, LeftEmpty, Text}
use Rattle.tp_mirror.specs.declared.workspace.Source.{Source}
use Rattle.tp_mirror.specs.declared.workspace.Source.TheVariants.{Note, Away}

-- what a read found, and of which file
pub record FileRead : Type 0 where
  pub source : Source
  pub look : Look

-- what was to become NOTE, and whether it did
pub record LinkAnswer : Type 0 where
  pub text : TextAt
  pub is_linked : Bool

-- The state file, where there is one; the texts that are at changes or at heads of the journal; the one of a change that
-- mirror made and that the state file doesn't have; whether NOTE was moved away and nothing is there since; what is to
-- become NOTE; the files that were moved away; what was read last; what was linked last.
pub record MirrorView : Type 0 where
  pub saved : Option State
  pub made : List TextAt
  pub fresh : Option TextAt
  pub away : Bool
  pub part : Option TextAt
  pub names : List Name
  pub read : Option FileRead
  pub linked : Option LinkAnswer

-- ---- what a call leaves

-- NOTE isn't away where something was found there.
abbrev pub away_after : Source → Look → Bool → Bool
away_after Note Absent away = away
away_after Note Busy away = away
away_after Note NotText away = away
away_after Note Empty away = away
away_after Note LeftEmpty away = false
away_after Note (Text digest) away = false
away_after (Away name) look away = away

unfoldable pub with_look : MirrorView → Source → Look → MirrorView
with_look v source look = record v { read = Some (record { source = source; look = look }); away = away_after source look v.away }

-- a change was made, and the state file doesn't have its text
unfoldable pub with_new_text : MirrorView → TextAt → MirrorView
with_new_text v t = record v { made = v.made ++ t ∷ []; fresh = Some t }

-- the text at the journal's heads
unfoldable pub with_heads : MirrorView → TextAt → MirrorView
with_heads v t = record v { made = v.made ++ t ∷ [] }

unfoldable pub with_state : MirrorView → State → MirrorView
with_state v s = record v { saved = Some s; fresh = None }

unfoldable pub with_part : MirrorView → TextAt → MirrorView
with_part v t = record v { part = Some t }

unfoldable pub without_part : MirrorView → MirrorView
without_part v = record v { part = None }

-- NOTE has the name of a file that was moved away
unfoldable pub with_moved : MirrorView → Name → MirrorView
with_moved v name = record v { away = true; names = v.names ++ name ∷ [] }

-- What was to become NOTE is NOTE, or something else is there.
unfoldable pub with_answer : MirrorView → TextAt → Bool → MirrorView
with_answer v t is_linked = record v { away = if is_linked then false else v.away; linked = Some (record { text = t; is_linked = is_linked }) }

-- A file that was moved away is there no more; nothing else changed.
pub record IsRemoved (v : MirrorView) (name : Name) (w : MirrorView) : Type 0 where
  pub others : w ≡ record v { names = w.names }
  pub fewer : (n : Name) → In n w.names → In n v.names
  pub gone : (n : Name) → In n w.names → n ≡ name → ⊥

-- the state was saved, or nothing was done
abbrev pub IsSavedOr : MirrorView → State → MirrorView → Type 0
IsSavedOr v s w = (w ≡ with_state v s) ⊎ (w ≡ v)

-- ---- what is asked for

-- The text is at a change, or at heads, of the journal.
unfoldable pub IsMade : MirrorView → TextAt → Type 0
IsMade v t = In t v.made

-- all texts that are at changes are in the heads of this one
unfoldable pub HasAllMade : (List Hash → List Hash → Type 0) → MirrorView → TextAt → Type 0
HasAllMade includes v t = (s : TextAt) → In s v.made → includes t.heads s.heads

-- one of the texts that a state knows
unfoldable pub Knows : State → TextAt → Type 0
Knows s t = (k : Known) × In k s.texts × (k.text ≡ t)

-- one of the files that a state watches
unfoldable pub WatchesName : State → Name → Type 0
WatchesName s name = (m : Moved) × In m s.moved × (m.name ≡ name)

-- A start can go on from the state: each of its texts is one of the journal's, as is what was read of the files that were
-- moved away; each of these files is watched; and where NOTE is away, the state says so.
pub record GoesOnFrom (v : MirrorView) (s : State) : Type 0 where
  pub made : (k : Known) → In k s.texts → IsMade v k.text
  pub moved : (m : Moved) → In m s.moved → IsMade v m.known.text
  pub watched : (name : Name) → In name v.names → WatchesName s name
  pub away : v.away ≡ true → s.is_away ≡ true

-- Nothing was done yet.
pub record IsNotBegun (v : MirrorView) : Type 0 where
  pub fresh : v.fresh ≡ None
  pub away : v.away ≡ false
  pub names : v.names ≡ []

-- What a crash leaves is what the next start goes on from. A change whose text the state file doesn't have is the one that
-- its author was to make.
pub record IsRecoverable (v : MirrorView) : Type 0 where
  pub state : (s : State) → v.saved ≡ Some s → GoesOnFrom v s
  pub unused : v.saved ≡ None → IsNotBegun v

-- The state file has just the state, and the next start goes on from it; lacks is the text of a change that it doesn't have.
pub record IsKept (v : MirrorView) (s : State) (lacks : Option TextAt) : Type 0 where
  pub saved : v.saved ≡ Some s
  pub fits : GoesOnFrom v s
  pub fresh : v.fresh ≡ lacks

-- The state may be put in place of the one before: it has the text of the change that was made, and names another one as the
-- next.
pub record CanSave (v : MirrorView) (s : State) : Type 0 where
  pub fits : GoesOnFrom v s
  pub fresh : (t : TextAt) → v.fresh ≡ Some t → Knows s t
  pub next : (t : TextAt) (o : State) → v.fresh ≡ Some t → v.saved ≡ Some o → o.author.actor ≡ s.author.actor → o.author.seq < s.author.seq

-- A read found this text.
pub record IsRead (v : MirrorView) (source : Source) (digest : Digest) : Type 0 where
  pub found : v.read ≡ Some (record { source = source; look = Text digest })
  pub there : source ≡ Note → v.away ≡ false

-- NOTE may be moved away: the text that was read there is one of the journal's, or no byte was in it for long.
abbrev pub MayMove : MirrorView → TextAt → Look → Type 0
MayMove v t (Text digest) = (t.digest ≡ digest) × IsMade v t
MayMove v t LeftEmpty = Unit {0}
MayMove v t Absent = ⊥
MayMove v t Busy = ⊥
MayMove v t NotText = ⊥
MayMove v t Empty = ⊥

-- Of NOTE a text was read, or nothing for long, such that it may be moved away.
unfoldable pub CanMove : MirrorView → TextAt → Type 0
CanMove v t = (look : Look) × (v.read ≡ Some (record { source = Note; look = look })) × MayMove v t look

-- NOTE was read, and no byte was in it for long.
unfoldable pub IsLeftEmpty : MirrorView → Type 0
IsLeftEmpty v = v.read ≡ Some (record { source = Note; look = LeftEmpty })

-- A file that was moved away may be removed: the text that was read there is one of the journal's, or there is none.
abbrev pub MayRemove : MirrorView → TextAt → Look → Type 0
MayRemove v t (Text digest) = (t.digest ≡ digest) × IsMade v t
MayRemove v t Absent = Unit {0}
MayRemove v t Empty = Unit {0}
MayRemove v t LeftEmpty = Unit {0}
MayRemove v t Busy = ⊥
MayRemove v t NotText = ⊥

unfoldable pub CanRemove : MirrorView → Name → TextAt → Type 0
CanRemove v name t = (look : Look) × (v.read ≡ Some (record { source = Away name; look = look })) × MayRemove v t look

-- A text that was read is one of the journal's, and is known.
pub record IsTaken (v : MirrorView) (s : State) (source : Source) (digest : Digest) (known : Known) : Type 0 where
  pub kept : IsKept v s None
  pub read : IsRead v source digest
  pub made : IsMade v known.text
  pub digest_is : known.text.digest ≡ digest

-- What is written, and is to become NOTE, is this text.
unfoldable pub IsPart : MirrorView → TextAt → Type 0
IsPart v t = v.part ≡ Some t

-- The text may be given to NOTE: it is the one at the journal's heads with all that was made, and the state file, by which
-- NOTE may be away, knows it.
pub record MayPut (includes : List Hash → List Hash → Type 0) (v : MirrorView) (t : TextAt) : Type 0 where
  pub whole : HasAllMade includes v t
  pub known : (s : State) → v.saved ≡ Some s → Knows s t
  pub away : (s : State) → v.saved ≡ Some s → s.is_away ≡ true
