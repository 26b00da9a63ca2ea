use Rattle.tp_ancestry.proofs.Common.{◌-◌, ◌≤◌, length, past_changes, Actor, ArePlacesBy}
use Rattle.tp_history.specs.Fit as fit
use Rattle.tp_ancestry.proofs.ancestry.Ancestry.count_in.Given as goal

abbrev pub invariant-loop-low : goal.invariant-loop-low
invariant-loop-low l = record {
  low : (a : Actor) → ArePlacesBy l.self.changes a l.own → l.low ≤ fit.count_by a (past_changes l.past_set l.self.changes);
  high : (a : Actor) → ArePlacesBy l.self.changes a l.own → fit.count_by a (past_changes l.past_set l.self.changes) ≤ l.high;
  within : l.high ≤ length l.own;
}

abbrev pub decreases-loop-low : goal.decreases-loop-low
decreases-loop-low l = l.high - l.low
