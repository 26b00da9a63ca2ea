use Rattle.tp_graph.proofs.Common.{◌≡◌, ◌++◌, drop, places_from, bits}
use Rattle.tp_graph.proofs.past.places_in.Given as goal

abbrev pub invariant-loop-i : goal.invariant-loop-i
invariant-loop-i l = l.places.items ++ places_from l.i (drop l.i (bits l.past_set l.ancestry.changes)) ≡ places_from 0 (bits l.past_set l.ancestry.changes)
