use Rattle.std.proofs.Common.{◌≡◌, ◌≤◌, ◌+◌, ◌-◌}
use Rattle.tp_disk.proofs.waiting.try_for.Given as goal

-- each try so far found that another has the lock
abbrev pub invariant-loop-refused : goal.invariant-loop-refused
invariant-loop-refused g l = (l.refused ≤ l.pauses) × (g.A.Attempt.refused l.attempt ≡ g.A.Attempt.refused l.fn.attempt + l.refused)

abbrev pub decreases-loop-refused : goal.decreases-loop-refused
decreases-loop-refused g l = l.pauses - l.refused
