use Rattle.tp_snapshot.proofs.Common.{IfSome, ◌≡◌, ◌-◌, length, drop, slice_get, shown_by, IsAuthorOf}
use Rattle.tp_snapshot.proofs.snapshot.Snapshot.id_at.Given as goal

-- the element is that at the index that is left among the elements that are left
abbrev pub invariant-loop-element : goal.invariant-loop-element
invariant-loop-element g l =
    let s = g.S.Sequence in
    let K = l.self.clock in
    let R = s.removals l.sequence in
    let L = s.placed l.sequence in
    record {
      noted : IfSome l.walk.spot (λ spot. s.present_at l.sequence spot l.walk.index);
      author : IsAuthorOf K l.trail.author;
      left : slice_get (shown_by K R (drop l.walk.index L)) l.left ≡ slice_get (shown_by K R L) l.at;
    }

abbrev pub decreases-loop-element : goal.decreases-loop-element
decreases-loop-element g l = length (g.S.Sequence.placed l.sequence) - l.walk.index
