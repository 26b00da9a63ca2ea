-- A seat, by the views of its token.
use Rattle.std.specs.Prelude.{◌≡◌, ℕ, List, [], ◌∷◌, false}
use Rattle.tp_served.specs.Common.{TableId, PeerState}
use Rattle.tp_journal.specs.Journal.{no_device}
use Rattle.tp_served.specs.Seats.{SeatState, SeatKnowledge, new_seat}
use Rattle.tp_served.specs.Rule.{ViewState, idle_seat}

-- no peer, which stands for what a token without a seat knows
abbrev pub nobody : PeerState
nobody =
    record { id = record { 0 = [] }; actor = record { 0 = [] }; applied = []; waiting = []; links = []; journal = []; device = no_device; stopped = false }

-- the first of the seats
abbrev pub first_seat : List SeatKnowledge → SeatKnowledge
first_seat [] = new_seat nobody 0
first_seat (t ∷ ts) = t

-- the first seat of the first view
abbrev pub seat_of : List ViewState → SeatKnowledge
seat_of [] = new_seat nobody 0
seat_of (v ∷ vs) = first_seat v.seats

-- what is seen of a seat whose token has these views
abbrev pub seat_state : TableId → List ViewState → SeatState
seat_state served views = record { served = served; state = seat_of views }

-- The token is that of the one seat with the number n.
pub record IsSeat (n : ℕ) (served : TableId) (views : List ViewState) : Type 0 where
  pub alone : views ≡ idle_seat (seat_of views) ∷ []
  pub number : (seat_of views).number ≡ n
