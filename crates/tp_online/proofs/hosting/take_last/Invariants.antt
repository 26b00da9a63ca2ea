use Rattle.std.proofs.Common.{◌≡◌, ◌++◌}
use Rattle.tp_online.proofs.hosting.take_last.Given as goal

-- what was taken so far was after what is left
abbrev pub invariant-loop : goal.invariant-loop
invariant-loop l = l.fn.seats.items ≡ l.seats.items ++ l.taken.items
