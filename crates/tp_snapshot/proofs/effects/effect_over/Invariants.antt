use Rattle.tp_snapshot.proofs.Common.{IfSome, ◌≡◌, ◌-◌, ◌≤◌, [], length, take, drop, string_bytes, IsAuthorOf}
use Rattle.tp_snapshot.proofs.SnapshotLaws.{bytes_by}
use Rattle.tp_snapshot.specs.Views.{is_in_view}
use Rattle.tp_snapshot.specs.Effects.{is_shown_after}
use Rattle.tp_snapshot.specs.Differences.{all_differences, count_up_to, differences_from}
use Rattle.tp_snapshot.specs.declared.views.View.TheVariants.{At}
use Rattle.tp_snapshot.proofs.effects.effect_over.Given as goal

-- the text so far is that of the elements that the walk has passed; the differences that are made, and those of the
-- elements that are left, are all
abbrev pub invariant-loop-element : goal.invariant-loop-element
invariant-loop-element g l =
    let s = g.S.Sequence in
    let K = l.old.clock in
    let R = s.removals l.sequence in
    let L = s.placed l.sequence in
    let was = is_in_view (At l.old) R in
    let is = is_shown_after K R l.change in
    record {
      noted : IfSome l.walk.spot (λ spot. s.present_at l.sequence spot l.walk.index);
      author : IsAuthorOf K l.trail.author;
      to : l.walk.index ≤ length L;
      few : count_up_to l.builder ≤ l.walk.index;
      read : string_bytes l.text ≡ bytes_by K R (take l.walk.index L);
      all : all_differences was is l.builder (drop l.walk.index L) ≡ differences_from was is 0 0 [] L;
    }

abbrev pub decreases-loop-element : goal.decreases-loop-element
decreases-loop-element g l = length (g.S.Sequence.placed l.sequence) - l.walk.index
