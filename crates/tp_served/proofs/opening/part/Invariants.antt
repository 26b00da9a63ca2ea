use Rattle.tp_served.proofs.Common.{◌≡◌, ◌+◌, ◌-◌, ◌≤◌, [], vec_len, vec_capacity, PeerState, fresh_from, seats_of, idle}
use Rattle.tp_served.proofs.opening.part.Given as goal

-- the seats below the number are parted, and the others are joined in the token
abbrev pub invariant-loop-number : goal.invariant-loop-number
invariant-loop-number g l = record {
  table : l.token.table_id ≡ l.table.shared.table_id;
  joined : (p : PeerState) → l.fn.token.me ≡ (idle (fresh_from p 0 l.count), []) → l.token.me ≡ (idle (fresh_from p l.number (l.count - l.number)), []);
  seats : (p : PeerState) → l.fn.token.me ≡ (idle (fresh_from p 0 l.count), []) → l.seats.items ≡ seats_of l.table.shared.table_id (fresh_from p 0 l.number);
  room : vec_len l.seats + (l.count - l.number) ≤ vec_capacity l.seats;
}
