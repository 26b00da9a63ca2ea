-- Seats of a page's peer, as they go on.
use Rattle.std.proofs.Common.{◌≡◌, ◌∙◌, ℕ, zero, suc, ◌<◌, List, [], ◌∷◌, ◌++◌, length, arith, refl, sym, subst, inl, inr, true, is_some, Option, Some, Result, Ok, Err}
use Rattle.std.specs.Prelude.{option_to_list, slice_index_or}
use Rattle.tp_served.specs.Common.{TableId}
use Rattle.tp_command_line.specs.declared.job.Hosting.{Hosting}
use Rattle.tp_list.proofs.TraceLaws.{trace_join}
use Rattle.tp_net.specs.Sessions.{AllSit, HoldsSession, AttemptsSession}
use Rattle.tp_online.specs.Showing.{AllTakePart, FollowsServer, TakesPart}
use Rattle.tp_opid.specs.declared.doc_id.DocId.{DocId}
use Rattle.tp_served.specs.Calls.{AreOf}
use Rattle.tp_served.specs.Seats.{SeatState}
use Rattle.tp_session.specs.declared.error.NetError.{NetError}
use Rattle.tp_session.specs.declared.session.Role.TheVariants.{Client}
use Rattle.tp_web.specs.Visiting.{AllAttend}
use Rattle.tp_web.proofs.Attending.{stays}

-- ---- one seat that follows a server

module _ (id : DocId) where
  -- no session
  pub not_yet : (s : SeatState) → FollowsServer id s s
  not_yet s = record { served = refl; answers = []; sessions = refl }

  -- sessions after sessions
  pub then : (s u v : SeatState) → FollowsServer id s u → FollowsServer id u v → FollowsServer id s v
  then s u v first second = record {
    served = second.served ∙ first.served;
    answers = first.answers ++ second.answers;
    sessions = trace_join (HoldsSession Client id) s.state first.answers u.state second.answers v.state first.sessions second.sessions;
  }

  one : (s s' : SeatState) (answer : Result ℕ NetError) → s'.served ≡ s.served → HoldsSession Client id s.state answer s'.state → FollowsServer id s s'
  one s s' answer same held = record { served = same; answers = answer ∷ []; sessions = (s'.state, held, refl) }

  -- the session over a connection, if there was one
  pub met : (s s' : SeatState) (answer : Result ℕ NetError) → s'.served ≡ s.served → AttemptsSession Client id s.state answer s'.state → FollowsServer id s s'
  met s s' (Ok n) same meets = one s s' (Ok n) same meets.0
  met s s' (Err e) same (inl held) = one s s' (Err e) same held
  met s s' (Err e) same (inr none) = record { served = same; answers = []; sessions = none.1 }

-- ---- all seats

module _ (hosting : Hosting) (id : DocId) where
  -- nothing was done
  pub none : (seats : List SeatState) → AllTakePart hosting id seats seats
  none [] = tt
  none (s ∷ seats) = (inl (stays s), none seats)

  -- each went on
  each_does : (seats back : List SeatState) → length back ≡ length seats
      → ((i : ℕ) (d : SeatState) → i < length seats → TakesPart hosting id (slice_index_or seats i d) (slice_index_or back i d)) → AllTakePart hosting id seats back
  each_does [] [] same each = tt
  each_does [] (t ∷ back) same each = absurd (omega (arith, same))
  each_does (s ∷ seats) [] same each = absurd (omega (arith, same))
  each_does (s ∷ seats) (t ∷ back) same each =
      (each 0 s (omega arith), each_does seats back (omega (arith, same)) (λ i d below. each (suc i) d (omega (arith, below))))

  pub by_turns : (seats back : List SeatState) → AllAttend seats back → AllTakePart hosting id seats back
  by_turns seats back all = each_does seats back all.same (λ i d below. inl (all.each i d below))

  pub by_sessions : (seats back : List SeatState) → is_some hosting.serve ≡ true → AllSit id seats back → AllTakePart hosting id seats back
  by_sessions seats back serves all = each_does seats back all.same (λ i d below. inr (inl (serves, all.each i d below)))

  -- those of two lists
  pub both : (seats back others others' : List SeatState) → AllTakePart hosting id seats back → AllTakePart hosting id others others'
      → AllTakePart hosting id (seats ++ others) (back ++ others')
  both [] [] others others' all more = more
  both [] (t ∷ back) others others' all more = absurd all
  both (s ∷ seats) [] others others' all more = absurd all
  both (s ∷ seats) (t ∷ back) others others' all more = (all.0, both seats back others others' all.1 more)

  -- the last of them followed a server
  pub last_follows : (seats back rest : List SeatState) (s t : SeatState) → is_some hosting.follow ≡ true → seats ≡ rest ++ s ∷ [] → back ≡ rest ++ t ∷ [] → FollowsServer id s t
      → AllTakePart hosting id seats back
  last_follows seats back rest s t follows is is' followed =
      let whole = both rest rest (s ∷ []) (t ∷ []) (none rest) (inr (inr (follows, followed)), tt) in
      subst (λ (ss : List SeatState). AllTakePart hosting id ss back) (sym is) (subst (λ (ss : List SeatState). AllTakePart hosting id (rest ++ s ∷ []) ss) (sym is') whole)

  -- those of three, that were shared out and are together again
  pub all_three : (seats back windows sessions following w s f : List SeatState) → seats ≡ (windows ++ sessions) ++ following → back ≡ (w ++ s) ++ f
      → AllTakePart hosting id windows w → AllTakePart hosting id sessions s → AllTakePart hosting id following f → AllTakePart hosting id seats back
  all_three seats back windows sessions following w s f is is' first second third =
      let whole = both (windows ++ sessions) (w ++ s) following f (both windows w sessions s first second) third in
      subst (λ (ss : List SeatState). AllTakePart hosting id ss back) (sym is) (subst (λ (ss : List SeatState). AllTakePart hosting id ((windows ++ sessions) ++ following) ss) (sym is') whole)

  served_still : (s t : SeatState) → TakesPart hosting id s t → t.served ≡ s.served
  served_still s t (inl turns) = turns.served
  served_still s t (inr (inl held)) = held.1.served
  served_still s t (inr (inr followed)) = followed.1.served

  -- they are still seats of the served peer, and as many
  pub parts_of : (served : TableId) (seats back : List SeatState) → AreOf served seats → AllTakePart hosting id seats back → AreOf served back × (length back ≡ length seats)
  parts_of served [] [] are all = (tt, refl)
  parts_of served [] (t ∷ back) are all = absurd all
  parts_of served (s ∷ seats) [] are all = absurd all
  parts_of served (s ∷ seats) (t ∷ back) are all =
      let rest = parts_of served seats back are.1 all.1 in
      ((served_still s t all.0 ∙ are.0, rest.0), omega (arith, rest.1))

-- the last of a list, as it is taken
pub popped : (seats rest : List SeatState) (taken : Option SeatState) (s : SeatState) → taken ≡ Some s → seats ≡ rest ++ option_to_list taken → seats ≡ rest ++ s ∷ []
popped seats rest taken s is all = subst (λ (o : Option SeatState). seats ≡ rest ++ option_to_list o) is all

-- seats of two lists
pub are_both : (served : TableId) (seats others : List SeatState) → AreOf served (seats ++ others) → AreOf served seats × AreOf served others
are_both served [] others are = (tt, are)
are_both served (s ∷ seats) others are = let rest = are_both served seats others are.1 in ((are.0, rest.0), rest.1)
