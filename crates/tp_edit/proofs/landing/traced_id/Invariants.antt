use Rattle.std.proofs.Common.{◌+◌, ◌*◌, ◌≤◌, ◌^◌, length}
use Rattle.tp_rga.specs.Shown.{visible_of}
use Rattle.tp_edit.specs.EditRecords.{ids_of}
use Rattle.tp_edit.proofs.Landed.{IsTraced}
use Rattle.tp_edit.proofs.landing.traced_id.Given as goal

-- The element was at `position` before the landings from `left` on; each landing moves it by less than 2^64.
abbrev pub invariant-loop-left : goal.invariant-loop-left
invariant-loop-left g l =
    let V = ids_of (visible_of (g.S.Sequence.removals l.sequence) (g.S.Sequence.placed l.sequence)) in
    record {
      traced : IsTraced l.actor V l.landings l.fn.position l.left l.position;
      near : l.position + 2 ^ 64 * l.left ≤ 2 ^ 65 + 2 ^ 64 * length l.landings;
    }

abbrev pub decreases-loop-left : goal.decreases-loop-left
decreases-loop-left g l = l.left
