use Rattle.tp_sync.proofs.Common.{◌≡◌, false, List, map, ◌-◌, Hash, marks_since, IsOutside}
use Rattle.tp_sync.proofs.NextLaws.{Goes}
use Rattle.tp_sync.proofs.due.take_from.Given as goal

abbrev pub invariant-places : goal.invariant-places
invariant-places l = (l.taken.left ≡ false) × ((H K : List Hash) → IsOutside l.graph.applied H K l.due
    → Goes l.graph.applied (marks_since l.graph.applied H K) l.stretch.from l.fn.next l.stretch.end l.place (map (λ c. c.now) l.taken.changes.items) l.taken.bytes l.taken.next)

abbrev pub decreases-places : goal.decreases-places
decreases-places l = l.stretch.end - l.place
