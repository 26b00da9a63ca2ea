use Rattle.tp_snapshot.proofs.Common.{IfSome, ◌-◌}
use Rattle.tp_snapshot.specs.Windows.{NoneDeleted}
use Rattle.tp_snapshot.proofs.window.Window.has_deleted.Given as goal

-- none was deleted so far
abbrev pub invariant-elements : goal.invariant-elements
invariant-elements g l =
    let s = g.S.Sequence in
    record {
      noted : IfSome l.walk.spot (λ spot. s.present_at l.sequence spot l.walk.index);
      none : NoneDeleted (s.removals l.sequence) (s.placed l.sequence) l.self.from l.walk.index;
    }

abbrev pub decreases-elements : goal.decreases-elements
decreases-elements g l = l.self.to - l.walk.index
