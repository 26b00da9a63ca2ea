-- The steps on a served peer's shared state, and what each tells the seat that makes it.
use Rattle.std.specs.Prelude.{◌≡◌, ◌≢◌, ℕ, ◌==◌, List, [], ◌∷◌, ◌++◌, take, drop, Option, Some, MatchBool}
use Rattle.tp_served.specs.Common.{Me, Step, ChangeParts, known_of, PeerState}
use Rattle.tp_served.specs.Seats.{IsKeptIn, HaveMet, SeatKnowledge, gave, missed_by, took}
use Rattle.tp_served.specs.Rule.{ViewState, idle_seat, holding_seat, idle}

-- a seat at the table: its view, and the slots that are out with it
abbrev pub Token : Type 0
Token = Me (Option PeerState) ViewState

-- what a step tells: of the step, the seat before, the number found and the seat after
abbrev pub Telling : Type 1
Telling = Step (Option PeerState) → Token → ℕ → Token → Type 0

-- The seat took the peer out of the slot: the peer goes on from what the seat left.
pub record AcquiresPeer (t : SeatKnowledge) (m' : Token) : Type 0 where
  pub found : PeerState
  pub kept : IsKeptIn t found
  pub out : m' ≡ (holding_seat found (took t), (0, Some found) ∷ [])

-- take and miss: where 0 was found the seat took the peer, and else it notes that the word was taken
abbrev pub try_step : Telling
try_step s m r m' = (t : SeatKnowledge) → m ≡ (idle_seat t, []) → MatchBool (r == 0) (AcquiresPeer t m') (m' ≡ (idle_seat (missed_by 1 t), []))

-- give back: the seat's turn went from the peer that it took to the one in the slot
abbrev pub give_step : Telling
give_step s m r m' = (t : SeatKnowledge) (p p' : PeerState) → m ≡ (holding_seat p t, (0, Some p') ∷ []) → m' ≡ (idle_seat (gave p p' t), [])

-- look: of two joined seats, what one has seen begins what the other has seen
abbrev pub look_step : Telling
look_step s m r m' = (t u : SeatKnowledge) → m ≡ (idle (t ∷ u ∷ []), []) → (m' ≡ m) × HaveMet t u

-- join: two views are one with the seats of each, those of the second first
abbrev pub join_views : ViewState → ViewState → ViewState
join_views v w = idle (w.seats ++ v.seats)

-- the view of seats that were joined to another
abbrev pub spent_view : ViewState
spent_view = idle []

-- split: the first seat is parted from the others
abbrev pub first_view_of : ViewState → ViewState
first_view_of v = idle (take 1 v.seats)

-- the others
abbrev pub others_of : ViewState → ViewState
others_of v = idle (drop 1 v.seats)

-- What a turn of the seat n may do to the peer that it holds: it stays the same document under the same actor, its list
-- grows at its end, and it knows what it knew on every other link.
pub record StepsAsSeat (n : ℕ) (p p' : PeerState) : Type 0 where
  pub id : p'.id ≡ p.id
  pub actor : p'.actor ≡ p.actor
  pub new : List ChangeParts
  pub applied : p'.applied ≡ p.applied ++ new
  pub links : (m : ℕ) → m ≢ n → known_of p'.links m ≡ known_of p.links m
