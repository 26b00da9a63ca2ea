-- A served peer, what each of its seats knows, and what a call on a seat does.
use Rattle.std.specs.Prelude.{◌≡◌, ◌⊎◌, ℕ, suc, zero, ◌+◌, List, [], ◌∷◌, ◌++◌, length, drop, map}
use Rattle.tp_served.specs.Common.{ChangeParts, known_of, PeerState, Call, PeerStep, Reply, TableId}
use Rattle.tp_receive.specs.Receiving.{IsPrefixOf}
use Rattle.tp_peer.specs.PeerState.{gained_changes}

-- What a seat knows: its number; the whole peer as its last turn found it, and as it left it; the changes that its
-- turns entered, in order; how many turns it took; and how many of its tries found the word taken.
pub record SeatKnowledge : Type 0 where
  pub number : ℕ
  pub before : PeerState
  pub after : PeerState
  pub mine : List ChangeParts
  pub taken : ℕ
  pub missed : ℕ

-- What is seen of a seat: which served peer it is of, and what it knows.
pub record SeatState : Type 0 where
  pub served : TableId
  pub state : SeatKnowledge

-- What is seen of a served peer: which it is; the peer that it was opened with; and how many seats it has.
pub record ServedState : Type 0 where
  pub served : TableId
  pub opened : PeerState
  pub count : ℕ

-- a seat that took no turn yet
abbrev pub new_seat : PeerState → ℕ → SeatKnowledge
new_seat p n = record { number = n; before = p; after = p; mine = []; taken = 0; missed = 0 }

-- as many seats as said, from the number n on, that took no turn yet
abbrev pub fresh_from : PeerState → ℕ → ℕ → List SeatKnowledge
fresh_from p n zero = []
fresh_from p n (suc count) = new_seat p n ∷ fresh_from p (n + 1) count

-- what is seen of seats by what they know
abbrev pub seats_of : TableId → List SeatKnowledge → List SeatState
seats_of served states = map (λ t. record { served = served; state = t }) states

-- what seats know
abbrev pub states_of : List SeatState → List SeatKnowledge
states_of seats = map (λ (s : SeatState). s.state) seats

-- the seat, where it took a turn more
abbrev pub took : SeatKnowledge → SeatKnowledge
took t = record t { taken = t.taken + 1 }

-- the seat, where k more of its tries found the word taken
abbrev pub missed_by : ℕ → SeatKnowledge → SeatKnowledge
missed_by k t = record t { missed = t.missed + k }

-- the seat, where its turn found the peer p and left p'
abbrev pub gave : PeerState → PeerState → SeatKnowledge → SeatKnowledge
gave p p' t = record t { before = p; after = p'; mine = t.mine ++ gained_changes p p' }

-- The peer has all that the seat left: its list begins with what the seat has seen, and on the link with the seat's
-- number it knows what it knew there.
pub record IsKeptIn (t : SeatKnowledge) (p : PeerState) : Type 0 where
  pub seen : IsPrefixOf t.after.applied p.applied
  pub link : known_of p.links t.number ≡ known_of t.after.links t.number

-- What a call on a seat shows that was not answered as busy: it took one turn, in which the call was made on the whole
-- peer. The peer that it found goes on from what the seat left, and of changes the seat gained just those that the
-- peer got in that turn. Nothing is said of how often it found the word taken.
pub record CallTakesTurn (t : SeatKnowledge) (call : Call) (reply : Reply) (t' : SeatKnowledge) : Type 0 where
  pub number : t'.number ≡ t.number
  pub taken : t'.taken ≡ t.taken + 1
  pub step : PeerStep t'.before call reply t'.after
  pub kept : IsKeptIn t t'.before
  pub mine : t'.mine ≡ t.mine ++ gained_changes t'.before t'.after

-- What a visit on a seat shows: it took one turn, in which this was done to the peer that it found. That one goes on from
-- what the seat left, and of changes the seat gained just those that the peer got in that turn.
pub record Visits (t : SeatKnowledge) (done : PeerState → PeerState → Type 0) (t' : SeatKnowledge) : Type 0 where
  pub number : t'.number ≡ t.number
  pub taken : t'.taken ≡ t.taken + 1
  pub visited : done t'.before t'.after
  pub kept : IsKeptIn t t'.before
  pub mine : t'.mine ≡ t.mine ++ gained_changes t'.before t'.after

-- Of two seats, what one has seen begins what the other has seen.
abbrev pub HaveMet : SeatKnowledge → SeatKnowledge → Type 0
HaveMet t u = IsPrefixOf t.after.applied u.after.applied ⊎ IsPrefixOf u.after.applied t.after.applied
