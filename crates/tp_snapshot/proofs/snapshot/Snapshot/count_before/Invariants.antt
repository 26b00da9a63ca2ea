use Rattle.tp_snapshot.proofs.Common.{IfSome, ◌≡◌, ◌-◌, ◌≤◌, length, take, shown_by, IsAuthorOf}
use Rattle.tp_snapshot.proofs.snapshot.Snapshot.count_before.Given as goal

-- as many as are shown of the elements that the walk has passed
abbrev pub invariant-elements : goal.invariant-elements
invariant-elements g l =
    let s = g.S.Sequence in
    record {
      noted : IfSome l.walk.spot (λ spot. s.present_at l.sequence spot l.walk.index);
      author : IsAuthorOf l.self.clock l.trail.author;
      to : l.walk.index ≤ l.end;
      few : l.count ≤ l.walk.index;
      counted : l.count ≡ length (shown_by l.self.clock (s.removals l.sequence) (take l.walk.index (s.placed l.sequence)));
    }

abbrev pub decreases-elements : goal.decreases-elements
decreases-elements g l = l.end - l.walk.index
