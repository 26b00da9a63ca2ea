-- What a mirror makes of the texts that it reads.
use Rattle.std.specs.Prelude.{◌≡◌, List, [], ◌∷◌, ℕ, Bool, true, false}
use Rattle.std.specs.Str.{chars}
use Rattle.tp_opid.specs.declared.actor.Actor.{Actor}
use Rattle.tp_opid.specs.declared.hash.Hash.{Hash}
use Rattle.tp_peer.specs.PeerState.{PeerState}
use Rattle.tp_recovery.specs.Layout.{journal}
use Rattle.tp_recovery.specs.Recovery.{Recovers}
use Rattle.tp_commands.specs.Since.{MakesTextAt}
use Rattle.tp_disk.specs.DiskView.{DiskView, WasRead}
use Rattle.tp_mirror.specs.declared.workspace.Source.{Source}
use Rattle.tp_mirroring.specs.Beside.{source_path}

-- A text that was read of NOTE, or of a file that was moved away: its bytes; the heads on which it was made a change, or several;
-- who made these, and their hashes.
pub record Taking : Type 0 where
  pub source : Source
  pub bytes : List ℕ
  pub heads : List Hash
  pub actor : Actor
  pub hashes : List Hash

-- The bytes were read of the file, and became the text at a change that was made on the heads.
pub record Takes (saw : DiskView → Type 0) (note : List ℕ) (p : PeerState) (t : Taking) (q : PeerState) : Type 0 where
  pub read : saw (WasRead (source_path note t.source) t.bytes)
  pub makes : MakesTextAt p t.heads t.actor (chars t.bytes) 0 [] t.hashes q

-- So were all of them, the last one first.
abbrev pub AreTakings : (DiskView → Type 0) → List ℕ → PeerState → List Taking → PeerState → Type 0
AreTakings saw note p [] q = q ≡ p
AreTakings saw note p (t ∷ older) q = (m : PeerState) × AreTakings saw note p older m × Takes saw note m t q

-- The journal of the bytes `before` was opened, and texts that were read of NOTE were made changes of it: all that it has more.
pub record Mirrors (saw : DiskView → Type 0) (note before after : List ℕ) : Type 0 where
  pub first : PeerState
  pub last : PeerState
  pub takings : List Taking
  pub keep : ℕ
  pub recovers : Recovers before first.id first.applied keep
  pub takes : AreTakings saw note first takings last
  pub journal_is : after ≡ journal last.id last.applied

-- The peer runs, and has some takings more than the first one; nothing is said of it once a call failed midway.
abbrev pub HasTakings : Bool → (DiskView → Type 0) → List ℕ → PeerState → PeerState → Type 0
HasTakings false saw note p q = (q.stopped ≡ false) × ((takings : List Taking) × AreTakings saw note p takings q)
HasTakings true saw note p q = Unit {0}
