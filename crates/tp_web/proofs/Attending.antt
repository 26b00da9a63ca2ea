-- Turns of windows, seat by seat.
use Rattle.std.specs.Prelude.{◌≡◌, ℕ, suc, ◌<◌, List, [], ◌∷◌, ◌++◌, length, slice_index_or}
use Rattle.std.proofs.Common.{arith, refl, ◌∙◌}
use Rattle.atomic_table.specs.Seated.{TableId}
use Rattle.tp_list.proofs.TraceLaws.{trace_join}
use Rattle.tp_net.proofs.SeatLists.{seat_is_of}
use Rattle.tp_opid.specs.declared.actor.Actor.{Actor}
use Rattle.tp_served.specs.Calls.{AreOf}
use Rattle.tp_served.specs.Seats.{SeatState}
use Rattle.tp_web.specs.Visiting.{AllAttend, Attends, VisitsAs}

-- no turn
pub stays : (s : SeatState) → Attends s s
stays s = record { served = refl; actors = []; visits = refl }

-- turns after turns
pub joins : (s u v : SeatState) → Attends s u → Attends u v → Attends s v
joins s u v first then = record {
  served = then.served ∙ first.served;
  actors = first.actors ++ then.actors;
  visits = trace_join VisitsAs s.state first.actors u.state then.actors v.state first.visits then.visits;
}

-- one turn
pub one_turn : (s s' : SeatState) (actor : Actor) → s'.served ≡ s.served → VisitsAs s.state actor s'.state → Attends s s'
one_turn s s' actor same turn = record { served = same; actors = actor ∷ []; visits = (s'.state, turn, refl) }

are_of : (served : TableId) (seats : List SeatState) → ((i : ℕ) (d : SeatState) → i < length seats → (slice_index_or seats i d).served ≡ served) → AreOf served seats
are_of served [] each = tt
are_of served (s ∷ seats) each = (each 0 s (omega arith), are_of served seats (λ i d below. each (suc i) d (omega arith)))

-- they are still seats of the served peer
pub all_still_of : (served : TableId) (seats seats' : List SeatState) → AreOf served seats → AllAttend seats seats' → AreOf served seats'
all_still_of served seats seats' all went = are_of served seats' (λ i d below. let lt : i < length seats = omega (arith, went.same) in (went.each i d lt).served ∙ seat_is_of served seats i d all lt)
