-- What contracts see of a folder, and what every folder keeps.
use Rattle.std.specs.Prelude.{◌≡◌, Bool, List, ℕ, Option, Some, None}
use Rattle.std.specs.Str.{chars}
use Rattle.tp_layout.specs.declared.parts.ChangeParts.{ChangeParts}
use Rattle.tp_list.specs.Members.{In}
use Rattle.tp_edit.specs.Text.{IsTextOf}
use Rattle.tp_history.specs.Past.{past}
use Rattle.tp_peer.specs.PeerState.{PeerState}
use Rattle.tp_commands.specs.Since.{GrowsAlone}
use Rattle.tp_disk.specs.DiskView.{DiskView, WasRead}
use Rattle.tp_mirror.specs.declared.known.TextAt.{TextAt}
use Rattle.tp_mirror.specs.declared.workspace.Look.{Look}
use Rattle.tp_mirror.specs.declared.workspace.Look.TheVariants.{Absent, Busy, NotText, Empty, LeftEmpty, Text}
use Rattle.tp_mirror.specs.declared.workspace.Source.{Source}
use Rattle.tp_mirror.specs.Mirroring.{FileRead, MirrorView}
use Rattle.tp_mirroring.specs.Beside.{source_path}
use Rattle.tp_mirroring.specs.Taking.{HasTakings}

-- what is on the disk and was read last, as the calls of a mirror left it, and the changes of the journal
pub record FolderView : Type 0 where
  pub seen : MirrorView
  pub applied : List ChangeParts

-- The text was read of the file, where a text was.
abbrev pub IsLookOf : (DiskView → Type 0) → List ℕ → Source → List ℕ → Source → Look → Type 0
IsLookOf saw note source text s (Text digest) = (s ≡ source) × saw (WasRead (source_path note source) text)
IsLookOf saw note source text s Absent = Unit {0}
IsLookOf saw note source text s Busy = Unit {0}
IsLookOf saw note source text s NotText = Unit {0}
IsLookOf saw note source text s Empty = Unit {0}
IsLookOf saw note source text s LeftEmpty = Unit {0}

abbrev pub IsTextRead : (DiskView → Type 0) → List ℕ → Source → List ℕ → Option FileRead → Type 0
IsTextRead saw note source text None = Unit {0}
IsTextRead saw note source text (Some r) = IsLookOf saw note source text r.source r.look

-- The bytes were brought to the disk at the path: they are the text of a peer's past of the heads.
pub record IsWritten (synced : List ℕ → List ℕ → Type 0) (path : List ℕ) (t : TextAt) : Type 0 where
  pub applied : List ChangeParts
  pub bytes : List ℕ
  pub is_text : IsTextOf (past applied t.heads) (chars bytes)
  pub is_synced : synced path bytes

-- So was what is to become NOTE, where it is.
abbrev pub IsPartWritten : (List ℕ → List ℕ → Type 0) → List ℕ → Option TextAt → Type 0
IsPartWritten synced path None = Unit {0}
IsPartWritten synced path (Some t) = IsWritten synced path t

-- the text of a change that the state file lacks is one of the journal's
abbrev pub IsAmongMade : Option TextAt → List TextAt → Type 0
IsAmongMade None made = Unit {0}
IsAmongMade (Some t) made = In t made

-- What is seen of the disk is seen by the turn; NOTE is the turn's; the change that the state file lacks is one of the journal's; the
-- text that was read last is kept; what is to become NOTE is on the disk; and what the peer has more than the first one was taken, at the end
-- of its list.
pub record IsFolder (saw_here saw : DiskView → Type 0) (synced : List ℕ → List ℕ → Type 0) (note_here note part text : List ℕ) (source : Source) (v : MirrorView) (has_failed : Bool) (first peer : PeerState) : Type 0 where
  pub sees : (d : DiskView) → saw_here d → saw d
  pub beside : note_here ≡ note
  pub is_made : IsAmongMade v.fresh v.made
  pub read : IsTextRead saw note source text v.read
  pub written : IsPartWritten synced part v.part
  pub grows : GrowsAlone first peer
  pub taken : HasTakings has_failed saw note first peer
