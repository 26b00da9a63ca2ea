use Rattle.tp_world.proofs.Common.{IfSome, ◌≡◌, ◌-◌, length, take, pairs_of}
use Rattle.tp_world.proofs.ordering.elements_of.Given as goal

-- the elements that the walk has passed
abbrev pub invariant-loop-element : goal.invariant-loop-element
invariant-loop-element g l =
    let s = g.S.Sequence in record {
      noted : IfSome l.walk.spot (λ spot. s.present_at l.sequence spot l.walk.index);
      pairs : l.pairs.items ≡ pairs_of (take l.walk.index (s.placed l.sequence));
    }

abbrev pub decreases-loop-element : goal.decreases-loop-element
decreases-loop-element g l = length (g.S.Sequence.placed l.sequence) - l.walk.index
