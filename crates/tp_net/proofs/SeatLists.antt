-- Lists of seats, seat by seat.
use Rattle.tp_net.proofs.Common.{◌≡◌, ℕ, zero, suc, ◌<◌, List, [], ◌∷◌, ◌++◌, length, refl, inl, inr, ◌∙◌, arith, Result, Ok, Err, slice_index_or, trace_join, DocId, SeatState, NetError, AllSit, HoldsSession, AttemptsSession, Sits}
use Rattle.atomic_table.specs.Seated.{TableId}
use Rattle.tp_session.specs.declared.session.Role.TheVariants.{Server}
use Rattle.tp_served.specs.Calls.{AreOf}

module _ (id : DocId) where
  -- no session
  pub stays : (s : SeatState) → Sits id s s
  stays s = record { served = refl; answers = []; sessions = refl }

  -- sessions after sessions
  pub joins : (s u v : SeatState) → Sits id s u → Sits id u v → Sits id s v
  joins s u v first then = record {
    served = then.served ∙ first.served;
    answers = first.answers ++ then.answers;
    sessions = trace_join (HoldsSession Server id) s.state first.answers u.state then.answers v.state first.sessions then.sessions;
  }

  one : (s s' : SeatState) (answer : Result ℕ NetError) → s'.served ≡ s.served → HoldsSession Server id s.state answer s'.state → Sits id s s'
  one s s' answer same held = record { served = same; answers = answer ∷ []; sessions = (s'.state, held, refl) }

  -- the session over a connection, if there was one
  pub sat : (s s' : SeatState) (answer : Result ℕ NetError) → s'.served ≡ s.served → AttemptsSession Server id s.state answer s'.state → Sits id s s'
  sat s s' (Ok n) same meets = one s s' (Ok n) same meets.0
  sat s s' (Err e) same (inl held) = one s s' (Err e) same held
  sat s s' (Err e) same (inr none) = record { served = same; answers = []; sessions = none.1 }

-- each seat of the list is a seat of the served peer
pub seat_is_of : (served : TableId) (seats : List SeatState) (i : ℕ) (d : SeatState) → AreOf served seats → i < length seats → (slice_index_or seats i d).served ≡ served
seat_is_of served [] i d all below = absurd (omega arith)
seat_is_of served (s ∷ seats) zero d all below = all.0
seat_is_of served (s ∷ seats) (suc i) d all below = seat_is_of served seats i d all.1 (omega arith)

are_of : (served : TableId) (seats : List SeatState) → ((i : ℕ) (d : SeatState) → i < length seats → (slice_index_or seats i d).served ≡ served) → AreOf served seats
are_of served [] each = tt
are_of served (s ∷ seats) each = (each 0 s (omega arith), are_of served seats (λ i d below. each (suc i) d (omega arith)))

-- they are still seats of the served peer
pub still_of : (id : DocId) (served : TableId) (seats seats' : List SeatState) → AreOf served seats → AllSit id seats seats' → AreOf served seats'
still_of id served seats seats' all sit = are_of served seats' (λ i d below. let lt : i < length seats = omega (arith, sit.same) in (sit.each i d lt).served ∙ seat_is_of served seats i d all lt)
