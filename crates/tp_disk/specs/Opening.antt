-- What opening a journal cuts off it, and the peer that is opened on it.
use Rattle.std.specs.Prelude.{◌≡◌, ◌⊎◌, ℕ, List, ◌++◌, Option, Some, None, codes}
use Rattle.std.specs.Fmt.{decimal}
use Rattle.rand_chacha.specs.ChaCha.{ChaCha}
use Rattle.tp_opid.specs.declared.actor.Actor.{Actor}
use Rattle.tp_opid.specs.declared.doc_id.DocId.{DocId}
use Rattle.tp_layout.specs.declared.parts.ChangeParts.{ChangeParts}
use Rattle.tp_recovery.specs.Recovery.{HasTail, Recovers}
use Rattle.tp_recovery.specs.Whole.{HoldsRecord}
use Rattle.tp_peer.specs.Appending.{JournalState}
use Rattle.tp_peer.specs.Opening.{Reopens}
use Rattle.tp_peer.specs.PeerState.{PeerState}
use Rattle.tp_disk.specs.DiskView.{DiskView, OfLocked, WasLeft}
use Rattle.tp_disk.specs.Keys.{IsKeyed, drawn_actor}

-- the path of the file that keeps what is cut off a journal from the offset on
abbrev pub cut_path : List ℕ → ℕ → List ℕ
cut_path file at = file ++ codes ".cut-" ++ decimal at

-- What is kept of the bytes that opening a journal cuts off: all of them, in a file of their own, where a whole record is in
-- them; and else none.
abbrev pub KeepsTail : (DiskView → Type 0) → List ℕ → ℕ → List ℕ → Option ℕ → Type 0
KeepsTail saw file keep tail None = HoldsRecord tail → ⊥
KeepsTail saw file keep tail (Some at) = (at ≡ keep) × saw (WasLeft (cut_path file at) tail)

-- A journal of these bytes was opened, and this was kept of what was cut off it.
pub record CutsJournal (saw : DiskView → Type 0) (file bytes : List ℕ) (cut : Option ℕ) : Type 0 where
  pub id : DocId
  pub changes : List ChangeParts
  pub keep : ℕ
  pub tail : List ℕ
  pub recovers : Recovers bytes id changes keep
  pub is_tail : HasTail bytes keep tail
  pub keeps : KeepsTail saw file keep tail cut

-- The journal in the file was opened, once its lock was taken, and this was kept of what was cut off it.
abbrev pub CutsFile : (DiskView → Type 0) → List ℕ → Option ℕ → Type 0
CutsFile saw file cut = OfLocked saw file (λ bytes. CutsJournal saw file bytes cut)

-- It may not have been opened, and nothing was cut off it.
abbrev pub MayCutFile : (DiskView → Type 0) → List ℕ → Option ℕ → Type 0
MayCutFile saw file cut = (cut ≡ None) ⊎ CutsFile saw file cut

-- The peer was opened under the actor on a journal that holds the bytes.
pub record OpensJournal (bytes : List ℕ) (actor : Actor) (p : PeerState) : Type 0 where
  pub opened : JournalState
  pub content : opened.content ≡ bytes
  pub reopens : Reopens opened actor p

-- The peer was opened on a journal that holds the bytes, under the actor that is drawn under the key.
pub record OpensUnder (key : Option (List ℕ)) (bytes : List ℕ) (p : PeerState) : Type 0 where
  pub generator : ChaCha
  pub keyed : IsKeyed key generator
  pub opens : OpensJournal bytes (drawn_actor generator) p
