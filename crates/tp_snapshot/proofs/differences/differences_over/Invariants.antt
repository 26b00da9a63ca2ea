use Rattle.tp_snapshot.proofs.Common.{IfSome, ◌≡◌, ◌-◌, ◌≤◌, [], take, drop, IsAuthorOf}
use Rattle.tp_snapshot.specs.Views.{is_in_view, IsTrailOf}
use Rattle.tp_snapshot.specs.Windows.{part_of}
use Rattle.tp_snapshot.specs.Differences.{all_differences, count_up_to, differences_from}
use Rattle.tp_snapshot.specs.declared.views.View.TheVariants.{At}
use Rattle.tp_snapshot.proofs.differences.differences_over.Given as goal

-- those that are made, and those of the elements that are left, are all
abbrev pub invariant-elements : goal.invariant-elements
invariant-elements g l =
    let s = g.S.Sequence in
    let R = s.removals l.sequence in
    let L = s.placed l.sequence in
    let was = is_in_view (At l.old) R in
    let is = is_in_view l.new R in
    record {
      noted : IfSome l.walk.spot (λ spot. s.present_at l.sequence spot l.walk.index);
      old : IsAuthorOf l.old.clock l.old_trail.author;
      new : IsTrailOf l.new l.new_trail;
      from : l.window.from ≤ l.walk.index;
      to : l.walk.index ≤ l.window.to;
      few : count_up_to l.builder ≤ l.walk.index;
      all : all_differences was is l.builder (take (l.window.to - l.walk.index) (drop l.walk.index L)) ≡ differences_from was is l.window.at 0 [] (part_of l.window L);
    }

abbrev pub decreases-elements : goal.decreases-elements
decreases-elements g l = l.window.to - l.walk.index
