-- What the calls on a served peer ensure.
use Rattle.std.specs.Prelude.{◌≡◌, ◌≢◌, ℕ, ◌<◌, ◌≤◌, false, List, [], ◌∷◌, ◌++◌, Option, Some, None}
use Rattle.tp_served.specs.Common.{TableId, In, ChangeParts, PeerState, Call, Reply}
use Rattle.tp_peer.specs.Laws.{is_on}
use Rattle.tp_served.specs.declared.error.ServedError.{ServedError}
use Rattle.tp_served.specs.declared.error.ServedError.TheVariants.{Busy, Peer, BadSeats, OutOfMemory}
use Rattle.tp_served.specs.ServedError.{TryOutcome, Missed, Replied, Never}
use Rattle.tp_served.specs.Seats.{IsKeptIn, SeatState, SeatKnowledge, CallTakesTurn, Visits, missed_by, took}
use Rattle.tp_served.specs.Rule.{ViewState, idle_seat, changes_of, entered_by, holding_seat, times}
use Rattle.tp_served.specs.Steps.{Token}

-- What one try of a call does to its seat: where the word was found taken, it notes that and nothing else changes; else
-- it shows the call, and notes no miss.
abbrev pub Tries : SeatKnowledge → Call → TryOutcome → SeatKnowledge → Type 0
Tries t call Missed t' = t' ≡ missed_by 1 t
Tries t call (Replied reply) t' = CallTakesTurn t call reply t' × (t'.missed ≡ t.missed)
Tries t call Never t' = ⊥

-- All of them are seats of this served peer.
abbrev pub AreOf : TableId → List SeatState → Type 0
AreOf served [] = Unit {0}
AreOf served (s ∷ seats) = (s.served ≡ served) × AreOf served seats

-- why a peer wasn't served with this number of seats, and what comes back
abbrev pub RefusesServing : ℕ → PeerState → ServedError → Option PeerState → Type 0
RefusesServing count p BadSeats back = (0 < count → count ≤ 64 → ⊥) × (back ≡ Some p)
RefusesServing count p OutOfMemory back = (0 < count) × (count ≤ 64) × (back ≡ None)
RefusesServing count p Busy back = ⊥
RefusesServing count p (Peer e) back = ⊥

-- What the peer that comes back at the end is, by what all seats know: what one of them left, or the opened one where
-- none took a turn. Its list goes on from what each has seen. It is the opened list and then changes, each with
-- the number of one seat; those that have a seat's number are, in order, the seat's.
pub record Closes (opened : PeerState) (count : ℕ) (states : List SeatKnowledge) (p : PeerState) : Type 0 where
  pub id : p.id ≡ opened.id
  pub actor : p.actor ≡ opened.actor
  pub seat : SeatKnowledge
  pub member : In seat states
  pub left : p ≡ seat.after
  pub kept : (t : SeatKnowledge) → In t states → IsKeptIn t p
  pub entered : List (ℕ × ChangeParts)
  pub applied : p.applied ≡ opened.applied ++ changes_of entered
  pub seats : (x : ℕ × ChangeParts) → In x entered → x.0 < count
  pub once : (n : ℕ) → n < count → times n states ≡ 1
  pub mine : (t : SeatKnowledge) → In t states → entered_by t.number entered ≡ t.mine

-- The call is on no other link than the one with the number n.
abbrev pub IsOnlyOn : ℕ → Call → Type 0
IsOnlyOn n call = (m : ℕ) → m ≢ n → is_on call m ≡ false

-- The seat is on its turn: it took the peer p out of the slot, which is empty. The peer goes on from what the seat left.
pub record IsTurn (t : SeatKnowledge) (m : Token) (p : PeerState) : Type 0 where
  pub kept : IsKeptIn t p
  pub out : m ≡ (holding_seat p (took t), (0, None) ∷ [])

-- The seat's turn ended: its token, which has these views, is that of a seat that shows the call, and noted no miss.
pub record EndsTurn (t : SeatKnowledge) (call : Call) (reply : Reply) (views : List ViewState) : Type 0 where
  pub state : SeatKnowledge
  pub shows : CallTakesTurn t call reply state
  pub missed : state.missed ≡ t.missed
  pub alone : views ≡ idle_seat state ∷ []

-- A visit ended: its token, which has these views, is that of a seat that visited, and noted nothing else.
pub record EndsVisit (t : SeatKnowledge) (done : PeerState → PeerState → Type 0) (views : List ViewState) : Type 0 where
  pub state : SeatKnowledge
  pub visits : Visits t done state
  pub alone : views ≡ idle_seat state ∷ []
