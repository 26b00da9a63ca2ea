use Rattle.tp_served.proofs.Common.{◌≡◌, [], ◌∷◌, ◌++◌, List, SeatKnowledge, states_of, idle, AreOf}
use Rattle.tp_served.proofs.closing.join_all.Given as goal

-- the last seats are joined in the token, in their order
abbrev pub invariant-loop-seat : goal.invariant-loop-seat
invariant-loop-seat g l = record {
  table : l.joined.table_id ≡ l.table.shared.table_id;
  rest : List SeatKnowledge;
  joined : l.joined.me ≡ (idle rest, []);
  all : states_of (l.fn.seats.items ++ l.fn.last ∷ []) ≡ states_of l.seats.items ++ rest;
  here : AreOf l.table.shared.table_id l.seats.items;
}

abbrev pub decreases-loop-seat : goal.decreases-loop-seat
decreases-loop-seat g l = goal.left-loop-seat g l
