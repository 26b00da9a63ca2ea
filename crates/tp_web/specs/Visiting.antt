-- Turns of windows on seats, one after another, and what they came to.
use Rattle.std.specs.Prelude.{◌≡◌, ℕ, ◌<◌, List, length, slice_index_or}
use Rattle.tp_list.specs.Traces.{Trace}
use Rattle.tp_opid.specs.declared.actor.Actor.{Actor}
use Rattle.tp_served.specs.Seats.{SeatState, SeatKnowledge, Visits}
use Rattle.tp_window.specs.Windows.{MayEdit}

-- One turn of the seat, in which the peer stayed or made an edit of the window's actor.
abbrev pub VisitsAs : SeatKnowledge → Actor → SeatKnowledge → Type 0
VisitsAs t actor t' = Visits t (MayEdit actor) t'

-- The seat stayed at its served peer, and some turns of windows led it from the one to the other.
pub record Attends (s s' : SeatState) : Type 0 where
  pub served : s'.served ≡ s.served
  pub actors : List Actor
  pub visits : Trace VisitsAs s.state actors s'.state

-- So it is of each seat, in their order, and as many are there.
pub record AllAttend (seats seats' : List SeatState) : Type 0 where
  pub same : length seats' ≡ length seats
  pub each : (i : ℕ) (d : SeatState) → i < length seats → Attends (slice_index_or seats i d) (slice_index_or seats' i d)
