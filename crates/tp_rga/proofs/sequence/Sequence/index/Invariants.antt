use Rattle.std.proofs.Common.{◌≡◌, ◌+◌, ◌-◌, length, drop}
use Rattle.std.specs.Option.{option_map, IfSome}
use Rattle.tp_rga.specs.Shown.{index_in}
use Rattle.tp_rga.proofs.sequence.Sequence.index.Given as goal

-- the element's index is among those of the elements that are left
abbrev pub invariant-loop-element : goal.invariant-loop-element
invariant-loop-element g l =
    let s = g.Self.Sequence in
    let L = s.placed l.self in
    record {
      noted : IfSome l.walk.spot (λ spot. s.present_at l.self spot l.walk.index);
      left : option_map (λ n. l.walk.index + n) (index_in (drop l.walk.index L) l.id) ≡ index_in L l.id;
    }

abbrev pub decreases-loop-element : goal.decreases-loop-element
decreases-loop-element g l = length (g.Self.Sequence.placed l.self) - l.walk.index
