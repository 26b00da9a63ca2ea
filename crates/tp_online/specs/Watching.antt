-- What watching a served peer does to it and to the seat.
use Rattle.std.specs.Prelude.{◌≡◌, ◌⊎◌, ℕ, List, Bool, Option, Some, None}
use Rattle.std.specs.String.{string_bytes}
use Rattle.tp_commands.specs.Since.{GrowsAlone}
use Rattle.tp_disk.specs.DiskView.{DiskView}
use Rattle.tp_list.specs.Traces.{Trace}
use Rattle.tp_mirroring.specs.Taking.{HasTakings}
use Rattle.tp_online.specs.declared.mirrored.Mirrored.{Mirrored}
use Rattle.tp_peer.specs.PeerState.{PeerState}
use Rattle.tp_served.specs.Seats.{SeatKnowledge, SeatState, Visits}

-- where the text file is that is kept beside a served peer, where one is
abbrev pub note_of : Option Mirrored → Option (List ℕ)
note_of None = None
note_of (Some m) = Some (string_bytes m.paths.note)

-- The peer's journal was settled: the peer stayed, or it has stopped since its device failed.
abbrev pub IsLookedAt : PeerState → PeerState → Type 0
IsLookedAt p p' = p' ≡ record p { device = p'.device; stopped = p'.stopped }

-- The peer was brought in step with a text file: all that it has more is at its list's end, and where that was done, was made of texts
-- that were read of the file.
pub record IsMirrored (saw : DiskView → Type 0) (note : List ℕ) (p p' : PeerState) : Type 0 where
  pub grows : GrowsAlone p p'
  pub refused : Bool
  pub takings : HasTakings refused saw note p p'

-- The peer was looked at, or brought in step with the text file that is kept beside it, where one is.
abbrev pub MayTurn : (DiskView → Type 0) → Option (List ℕ) → PeerState → PeerState → Type 0
MayTurn saw None p p' = IsLookedAt p p'
MayTurn saw (Some note) p p' = IsLookedAt p p' ⊎ IsMirrored saw note p p'

-- So it was in one turn of the seat.
abbrev pub LooksOnce : (DiskView → Type 0) → Option (List ℕ) → SeatKnowledge → Unit {0} → SeatKnowledge → Type 0
LooksOnce saw note t _ t' = Visits t (MayTurn saw note) t'

-- The seat stayed at its served peer, and some such turns led it from the one to the other.
pub record Watches (saw : DiskView → Type 0) (note : Option (List ℕ)) (s s' : SeatState) : Type 0 where
  pub served : s'.served ≡ s.served
  pub times : List (Unit {0})
  pub looks : Trace (LooksOnce saw note) s.state times s'.state
