use Rattle.tp_served.proofs.Common.{◌≡◌, ℕ, [], ◌∷◌, SeatKnowledge, missed_by, idle_seat}
use Rattle.tp_served.proofs.served.Served.wait.Given as goal

-- the seat is what it was, but for its misses
abbrev pub invariant-loop : goal.invariant-loop
invariant-loop g l = record {
  can : (goal.iterator-loop g).can_next l.iterator';
  finite : (goal.iterator-loop g).is_finite l.iterator';
  served : l.badge.table_id ≡ l.fn.self.served;
  seat : (t : SeatKnowledge) → l.fn.badge.views ≡ idle_seat t ∷ [] → (k : ℕ) × (l.badge.views ≡ idle_seat (missed_by k t) ∷ []);
}
