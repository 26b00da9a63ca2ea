-- Sessions on a seat, one after another, and what they came to.
use Rattle.std.specs.Prelude.{◌≡◌, ◌⊎◌, ℕ, ◌+◌, ◌-◌, ◌<◌, ◌^◌, min, List, length, slice_index_or, Result, Ok, Err}
use Rattle.tp_net.specs.Common.{Trace, Reply, NetError, Io, HostCall, on, new_session}
use Rattle.tp_opid.specs.declared.doc_id.DocId.{DocId}
use Rattle.tp_peer.specs.PeerState.{PeerState}
use Rattle.tp_peer.specs.PeerStep.{PeerStep}
use Rattle.tp_served.specs.Seats.{SeatState, SeatKnowledge, CallTakesTurn}
use Rattle.tp_session.specs.declared.session.Role.{Role}
use Rattle.tp_session.specs.declared.session.Role.TheVariants.{Server}
use Rattle.tp_session.specs.Transcript.{Traffic}
use Rattle.tp_net.specs.RunSession.{IsWholeSession}

-- A call of a session was one turn of the seat, on the link with the seat's number.
abbrev pub TakesTurn : SeatKnowledge → HostCall → Reply → SeatKnowledge → Type 0
TakesTurn t call reply t' = CallTakesTurn t (on t.number call) reply t'

-- One whole session was held on the seat, as the side with the role about the document, over some traffic.
abbrev pub HoldsSession : Role → DocId → SeatKnowledge → Result ℕ NetError → SeatKnowledge → Type 0
HoldsSession role id t answer t' = (w : Traffic) × IsWholeSession TakesTurn (new_session role id) t w answer t'

-- There were `before` changes and then `after`, and n is the number of those that came, up to 2^64 - 1.
pub record Enters (n before after : ℕ) : Type 0 where
  pub more : ℕ
  pub grown : after ≡ before + more
  pub reported : n ≡ min more (2 ^ 64 - 1)

-- Over a connection a session was held, and where it ended well it answered how many changes the seat entered; or there
-- was no connection to be had, and the seat stayed.
abbrev pub AttemptsSession : Role → DocId → SeatKnowledge → Result ℕ NetError → SeatKnowledge → Type 0
AttemptsSession role id t (Ok n) t' = HoldsSession role id t (Ok n) t' × Enters n (length t.mine) (length t'.mine)
AttemptsSession role id t (Err e) t' = HoldsSession role id t (Err e) t' ⊎ ((e ≡ Io) × (t' ≡ t))

-- A call of a session was a step of the peer, on its link with the number.
abbrev pub StepsOn : ℕ × PeerState → HostCall → Reply → ℕ × PeerState → Type 0
StepsOn a call reply b = (b.0 ≡ a.0) × PeerStep a.1 (on a.0 call) reply b.1

-- One whole session was held by the peer alone, on its link 0, as the side with the role about its document.
abbrev pub HoldsAlone : Role → PeerState → Result ℕ NetError → PeerState → Type 0
HoldsAlone role p answer p' = (w : Traffic) × IsWholeSession StepsOn (new_session role p.id) (0, p) w answer (0, p')

-- It was, over a connection, and where it ended well it answered how many changes entered; or there was no connection to be
-- had, and the peer stayed.
abbrev pub AttemptsSessionAlone : Role → PeerState → Result ℕ NetError → PeerState → Type 0
AttemptsSessionAlone role p (Ok n) p' = HoldsAlone role p (Ok n) p' × Enters n (length p.applied) (length p'.applied)
AttemptsSessionAlone role p (Err e) p' = HoldsAlone role p (Err e) p' ⊎ ((e ≡ Io) × (p' ≡ p))

-- The seat stayed at its served peer, and some sessions led it from the one to the other, each as the server.
pub record Sits (id : DocId) (s s' : SeatState) : Type 0 where
  pub served : s'.served ≡ s.served
  pub answers : List (Result ℕ NetError)
  pub sessions : Trace (HoldsSession Server id) s.state answers s'.state

-- So it is of each seat, in their order, and as many are there.
pub record AllSit (id : DocId) (seats seats' : List SeatState) : Type 0 where
  pub same : length seats' ≡ length seats
  pub each : (i : ℕ) (d : SeatState) → i < length seats → Sits id (slice_index_or seats i d) (slice_index_or seats' i d)
