-- A seat whose peer is out.
use Rattle.std.specs.Prelude.{◌≡◌, ℕ, [], ◌∷◌, Option, Some, None}
use Rattle.tp_served.specs.Common.{TableId, PeerState}
use Rattle.tp_served.specs.Rule.{holding_seat}
use Rattle.tp_served.specs.Seats.{SeatKnowledge}
use Rattle.tp_served.specs.Sitting.{first_seat, nobody}
use Rattle.tp_served.specs.Steps.{Token}

-- what is seen of it: which served peer it is of, what the seat knows, and the peer that it took out
pub record AbsenceState : Type 0 where
  pub served : TableId
  pub seat : SeatKnowledge
  pub out : PeerState

-- the peer that a view holds, where it holds one
abbrev pub peer_of : Option PeerState → PeerState
peer_of None = nobody
peer_of (Some p) = p

-- what is seen of a token
abbrev pub absence_state : TableId → Token → AbsenceState
absence_state served m = record { served = served; seat = first_seat m.0.seats; out = peer_of m.0.holding }

-- The token is that of the one seat with the number n, and the peer is out.
pub record IsAbsence (n : ℕ) (m : Token) : Type 0 where
  pub out : m ≡ (holding_seat (peer_of m.0.holding) (first_seat m.0.seats), (0, None) ∷ [])
  pub number : (first_seat m.0.seats).number ≡ n
