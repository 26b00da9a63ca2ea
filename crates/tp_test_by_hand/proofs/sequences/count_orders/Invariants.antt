use Rattle.std.proofs.Common.{◌≤◌}
use Rattle.tp_test_by_hand.proofs.sequences.count_orders.Given as goal

-- no more orders than numbers
abbrev pub invariant-loop-code : goal.invariant-loop-code
invariant-loop-code g l = l.orders ≤ l.code-counter
