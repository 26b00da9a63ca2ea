use Rattle.std.proofs.Common.{◌≡◌, ◌+◌, ◌≤◌, ◌^◌, take}
use Rattle.tp_rga.specs.Shown.{visible_of}
use Rattle.tp_edit.specs.Splices.{total_count}
use Rattle.tp_edit.specs.EditRecords.{ids_of, records_of_edit}
use Rattle.tp_edit.specs.Landings.{IsEdge, landings_of}
use Rattle.tp_edit.proofs.making.records.Given as goal

-- The splices so far are made and landed, what they left alone is known, and the next counter comes after theirs.
abbrev pub invariant-loop-splice : goal.invariant-loop-splice
invariant-loop-splice g l =
    let V = ids_of (visible_of (g.S.Sequence.removals l.sequence) (g.S.Sequence.placed l.sequence)) in
    let done = take l.splice-index l.splices in
    record {
      made : l.records.items ≡ records_of_edit l.actor l.start V done;
      landed : l.landings.done.items ≡ landings_of l.start done;
      edge : IsEdge l.actor V l.landings.done.items l.landings.edge;
      near : l.landings.edge.end ≤ 2 ^ 64 + total_count done;
      counted : l.next ≡ l.start + total_count done;
    }
